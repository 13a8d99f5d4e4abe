-- A number's digits are read one after another, until there is none left or one is no digit.
use Rattle.std.proofs.Common.{◌≡◌, ℕ, List, [], ◌∷◌, Some, None, Option, MatchOption, sym, refl, ap, ◌∙◌}
use Rattle.std.proofs.lemmas.List.{nil_from_length}
use Rattle.std.specs.Fn.{Called}
use Rattle.std.specs.Option.{option_map, option_and_then}
use Rattle.std.specs.ControlFlow.{continue_value}
use Rattle.std.specs.Iterator.{YieldsThen, TryFoldTurn, TryFoldsItems}
use Rattle.std.specs.List.{FoldsTo}
use Rattle.std.specs.Str.Iter.{bytes_rest, bytes_steps}
use Rattle.std.specs.declared.ops.ControlFlow.{ControlFlow}
use Rattle.std.specs.declared.ops.ControlFlow.TheVariants.{Continue, Break}
use denote.Param.Members.{Mut}
use Rattle.inspect.specs.Numerals.{digit_of, appended, numeral_from}

-- the number with one digit more, if it is a digit
abbrev pub longer : ℕ → ℕ → Option ℕ
longer value b = option_map (appended value) (digit_of b)

-- and then the rest of the digits
then_rest : (o : Option ℕ) (value : ℕ) (bs : List ℕ) → option_and_then (λ d. numeral_from (appended value d) bs) o ≡ option_and_then (λ n. numeral_from n bs) (option_map (appended value) o)
then_rest None value bs = refl
then_rest (Some d) value bs = refl

digit_read : (value b : ℕ) (bs : List ℕ) (r : Option ℕ) → longer value b ≡ r → numeral_from value (b ∷ bs) ≡ option_and_then (λ n. numeral_from n bs) r
digit_read value b bs r e = then_rest (digit_of b) value bs ∙ ap (option_and_then (λ n. numeral_from n bs)) e

module _
    {F : Type 0} (E : Type 0)
    (g : Mut F (ℕ × (ℕ × Unit {0})) (Option ℕ))
    (gives : (f f' : F) (value b : ℕ) (r : Option ℕ) → Called g f (value, (b, tt)) r f' → r ≡ longer value b) where
  abbrev goes : Option ℕ → ControlFlow E ℕ → Type 0
  goes r c = r ≡ continue_value c

  abbrev broke : F → ℕ → Option ℕ → ℕ → Type 0
  broke f value r b = (v : Option ℕ) × (f' : F) × (e : E) × Called g f (value, (b, tt)) v f' × goes v (Break e) × (r ≡ None)

  read : (xs : List ℕ) (o : Option ℕ) (s u : _) (f f' : F) (value last : ℕ) (r : Option ℕ)
      → YieldsThen bytes_steps s xs o u → FoldsTo {P = F × ℕ} (TryFoldTurn g goes) (f, value) xs (f', last)
      → MatchOption o (goes r (Continue last)) (broke f' last r) → r ≡ numeral_from value (bytes_rest s)
  read [] None s u f f' value last r y turns h =
      rw (ap bytes_rest y.1 ∙ nil_from_length _ y.2.0) (h ∙ ap (λ (p : F × ℕ). Some p.1) (sym turns))
  read [] (Some b) s u f f' value last r y turns h =
      let k = ap (λ (p : F × ℕ). longer p.1 b) turns ∙ sym (gives f' h.1 last b h.0 h.3) ∙ h.4 in
      rw (ap bytes_rest y.1 ∙ y.2) (h.5 ∙ sym (digit_read value b (bytes_rest u) None k))
  read (b ∷ xs) o s u f f' value last r y turns h =
      let p = turns.0 in
      let k = sym (gives f p.0 value b turns.1.0 turns.1.1) ∙ turns.1.2 in
      let more = read xs o y.1.0 u p.0 f' p.1 last r (y.0, y.1.2, y.2) turns.2 h in
      rw y.1.1 (more ∙ sym (digit_read value b (bytes_rest y.1.0) (Some p.1) k))

  pub numeral_read : (s u : _) (f : F) (value : ℕ) (r : Option ℕ) → TryFoldsItems bytes_steps g goes (λ e q. q ≡ None) s f value r u → r ≡ numeral_from value (bytes_rest s)
  numeral_read s u f value r h = read h.0 h.1 s u f h.2 value h.3 r h.4 h.5 h.6
