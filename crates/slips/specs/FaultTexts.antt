-- How faults are written.
use Rattle.std.specs.Prelude.{ℕ, List, ◌++◌, codes, decimal}
use Rattle.slips.specs.declared.fault.Fault.{Fault}
use Rattle.slips.specs.declared.fault.Fault.TheVariants.{Size, Grammar}

-- the size, or the entry's number and the byte
abbrev pub fault_text : Fault → List ℕ
fault_text Size = codes "size"
fault_text (Grammar entry byte) = codes "entry " ++ (decimal entry ++ (codes " byte " ++ decimal byte))
