-- A set of names, as the list of its declarations in text order. A use refers to the first declaration of its name.
use Rattle.std.specs.Prelude.{List, Bool, nat_eq, Option, Some, None}
use Rattle.std.specs.Map.{lookup}
use Rattle.std.specs.Cmp.Lexicographic.{pointwise}
use Rattle.tower_types.specs.Ty.{Name}
use Rattle.tower_syntax.specs.declared.named.Target.{Target}
use Rattle.tower_syntax.specs.declared.named.Target.TheVariants as target
use Rattle.arch_names.specs.declared.names.Declared.{Declared}
use Rattle.arch_names.specs.declared.names.Thing.{Thing}
use Rattle.arch_names.specs.declared.names.Thing.TheVariants as thing
use Rattle.arch_names.specs.declared.fault.Sort.{Sort}
use Rattle.arch_names.specs.declared.fault.Sort.TheVariants as sort

abbrev pub Names : Type 0 → Type 0
Names T = List (Name × Declared T)

-- what each name finds
abbrev pub Find : Type 0 → Type 0
Find T = Name → Option (Declared T)

abbrev pub same : Name → Name → Bool
same n m = pointwise nat_eq n m

-- the first declaration of a name
abbrev pub find : {T : Type 0} → Names T → Find T
find names name = lookup (same name) names

abbrev pub sort_of : Thing → Sort
sort_of (thing.Record n) = sort.Record
sort_of (thing.Source n) = sort.Source
sort_of (thing.Channel n) = sort.Channel
sort_of thing.Output = sort.Output
sort_of thing.Monitor = sort.Monitor
sort_of thing.Handler = sort.Handler

-- what a use that wants this sort refers to, where its name is declared as this thing
abbrev pub serves : Sort → Thing → Option Target
serves want (thing.Record n) = elim want [ sort.Record ↦ Some (target.Record n) | _ ↦ None ]
serves want (thing.Source n) = elim want [ sort.Source ↦ Some (target.Source n) | sort.SourceOrChannel ↦ Some (target.Source n) | _ ↦ None ]
serves want (thing.Channel n) = elim want [ sort.Channel ↦ Some (target.Channel n) | sort.SourceOrChannel ↦ Some (target.Channel n) | _ ↦ None ]
serves want thing.Output = None
serves want thing.Monitor = None
serves want thing.Handler = None
