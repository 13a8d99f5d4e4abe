-- What a refused record or sheet is told: the layer, the number and the place of each refusal.
use Rattle.fault.specs.declared.Fault.{Fault}
use Rattle.fault.specs.declared.Layer.TheVariants.{Record, Sheet}
use Rattle.record.specs.declared.faults.RecordFault.{RecordFault}
use Rattle.record.specs.declared.faults.RecordFault.TheVariants.{Empty, UnknownBits, NoStaircase, Short, Long, Beyond}
use Rattle.record.specs.declared.faults.SheetFault.{SheetFault}
use Rattle.record.specs.declared.faults.SheetFault.TheVariants.{Period, Jitter, Distance}

abbrev pub record_fault : RecordFault → Fault
record_fault Empty = record { layer = Record; number = 1; place = 0 }
record_fault UnknownBits = record { layer = Record; number = 2; place = 0 }
record_fault NoStaircase = record { layer = Record; number = 3; place = 0 }
record_fault (Short length) = record { layer = Record; number = 4; place = length }
record_fault (Long called_for) = record { layer = Record; number = 5; place = called_for }
record_fault (Beyond offset) = record { layer = Record; number = 6; place = offset }

-- the place is that of the figure on the sheet
abbrev pub sheet_fault : SheetFault → Fault
sheet_fault Period = record { layer = Sheet; number = 7; place = 0 }
sheet_fault Jitter = record { layer = Sheet; number = 7; place = 1 }
sheet_fault Distance = record { layer = Sheet; number = 7; place = 2 }
