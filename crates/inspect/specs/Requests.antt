-- What a call of the program asks for.
use Rattle.std.specs.Prelude.{ℕ, if◌then◌else◌, List, [], ◌∷◌, Some, None, codes, Option}
use Rattle.std.specs.Str.{bytes_eq}
use Rattle.inspect.specs.Numerals.{numeral}
use Rattle.inspect.specs.declared.asking.Request.{Request}
use Rattle.inspect.specs.declared.asking.Request.TheVariants.{Record, Sheet as SheetOf}

-- of three numbers, if all are there
abbrev pub sheet_of : Option ℕ → Option ℕ → Option ℕ → Option Request
sheet_of (Some p) (Some j) (Some d) = Some (SheetOf (record { period = p; jitter = j; distance = d }))
sheet_of _ _ _ = None

-- three numbers behind the flag
abbrev pub sheet_asked : List ℕ → List ℕ → List ℕ → List ℕ → Option Request
sheet_asked flag period jitter distance = if bytes_eq flag (codes "--sheet") then sheet_of (numeral period) (numeral jitter) (numeral distance) else None

-- the first argument is the program's name
abbrev pub requested : List (List ℕ) → Option Request
requested [] = None
requested (name ∷ []) = Some Record
requested (name ∷ (a ∷ [])) = None
requested (name ∷ (a ∷ (b ∷ []))) = None
requested (name ∷ (a ∷ (b ∷ (c ∷ [])))) = None
requested (name ∷ (flag ∷ (period ∷ (jitter ∷ (distance ∷ []))))) = sheet_asked flag period jitter distance
requested (name ∷ (a ∷ (b ∷ (c ∷ (d ∷ (e ∷ more)))))) = None
