-- The faults of the single stages as faults of a file.
use Rattle.tower_reader.specs.declared.fault.ReadFault.{ReadFault}
use Rattle.tower_reader.specs.declared.fault.ReadFault.TheVariants as read
use Rattle.arch_names.specs.declared.fault.NameFault.{NameFault}
use Rattle.arch_names.specs.declared.fault.NameFault.TheVariants as name
use Rattle.arch_types.specs.declared.fault.TypeFault.{TypeFault}
use Rattle.arch_types.specs.declared.fault.TypeFault.TheVariants as types
use Rattle.arch_checks.specs.declared.fault.Fault.{Fault}
use Rattle.arch_checks.specs.declared.fault.Fault.TheVariants as fault

abbrev pub of_read : ReadFault → Fault
of_read (read.Long limit) = fault.Long limit
of_read (read.Byte at) = fault.Byte at
of_read (read.Unopened at) = fault.Unopened at
of_read (read.Nest at) = fault.Nest at
of_read (read.Unclosed at) = fault.Unclosed at
of_read read.Empty = fault.Empty
of_read (read.Form at) = fault.Form at
of_read (read.Number at) = fault.Number at
of_read (read.Length at) = fault.Length at
of_read read.NoMemory = fault.NoMemory

abbrev pub of_name : NameFault → Fault
of_name (name.Twice at first) = fault.Twice at first
of_name (name.Unknown at) = fault.Unknown at
of_name (name.Kind at want found) = fault.Kind at want found
of_name name.NoMemory = fault.NoMemory

abbrev pub of_type : TypeFault → Fault
of_type (types.Mismatch at want found) = fault.Mismatch at want found
of_type (types.NotPlace at) = fault.NotPlace at
of_type (types.Field at) = fault.Field at
of_type (types.Range at) = fault.Range at
of_type (types.Deep at depth) = fault.Deep at depth
of_type types.NoMemory = fault.NoMemory
