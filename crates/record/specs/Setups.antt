-- What a record or a sheet says, once defaults stand in for what is left out.
use Rattle.std.specs.Prelude.{ℕ, Bool, List, [], ◌∷◌, is_some, Option, Result}
use Rattle.std.specs.Option.{unwrap_or, option_map}
use Rattle.std.specs.Result.{result_map_both}
use Rattle.staircase.specs.Of.{Stair, stairs_of, value_of}
use Rattle.record.specs.Layout.{Fields}
use Rattle.record.specs.declared.setup.Setup.{Setup}

-- the staircases by number, and which of the two figures were given
pub record Content : Type 0 where
  pub staircases : List (Option Stair)
  pub capacity : ℕ
  pub break_even : ℕ
  pub capacity_stated : Bool
  pub break_even_stated : Bool

abbrev pub default_capacity : ℕ
default_capacity = 256

abbrev pub default_break_even : ℕ
default_break_even = 1

abbrev pub content_of : Setup → Content
content_of s = record {
  staircases = stairs_of s.table;
  capacity = unwrap_or (option_map value_of s.capacity) default_capacity;
  break_even = unwrap_or (option_map value_of s.break_even) default_break_even;
  capacity_stated = is_some s.capacity;
  break_even_stated = is_some s.break_even;
}

-- what an answer says, or why there is none
abbrev pub said : {E : Type 0} → Result Setup E → Result Content E
said r = result_map_both content_of (λ e. e) r

abbrev pub meaning : Fields → Content
meaning f = record {
  staircases = f.staircase0 ∷ f.staircase1 ∷ f.staircase2 ∷ f.staircase3 ∷ [];
  capacity = unwrap_or f.capacity default_capacity;
  break_even = unwrap_or f.break_even default_break_even;
  capacity_stated = is_some f.capacity;
  break_even_stated = is_some f.break_even;
}
