-- Why a row could not be read.
use Rattle.hexadecimal.specs.declared.HexFault.{HexFault}
use Rattle.hexadecimal.specs.declared.HexFault.TheVariants.{Digits, Memory as NoMemory}
use Rattle.vectors.specs.declared.fault.Fault.{Fault}
use Rattle.vectors.specs.declared.fault.Fault.TheVariants.{Malformed, Memory}

-- what a fault of a field in hexadecimal is in a row
abbrev pub fault_of : HexFault → Fault
fault_of Digits = Malformed
fault_of NoMemory = Memory
