-- A fault as a line of text says it.
use Rattle.std.specs.Prelude.{ℕ, List, ◌++◌, codes, decimal}
use Rattle.fault.specs.declared.Layer.{Layer}
use Rattle.fault.specs.declared.Layer.TheVariants.{Record, Sheet}
use Rattle.fault.specs.declared.Fault.{Fault}

-- R for the table record, S for the sonde sheet
abbrev pub letter : Layer → List ℕ
letter Record = codes "R"
letter Sheet = codes "S"

-- an exclamation mark, the layer's letter, the number and the place, one space between two of them
abbrev pub text : Fault → List ℕ
text f = codes "! " ++ (letter f.layer ++ (codes " " ++ (decimal f.number ++ (codes " " ++ decimal f.place))))
