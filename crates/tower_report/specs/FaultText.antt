-- The line that refuses a file: the name of its fault, and what the fault says.
use Rattle.std.specs.Prelude.{List, [], ◌∷◌, ◌++◌, take, codes, decimal}
use Rattle.arch_names.specs.declared.fault.Sort.{Sort}
use Rattle.arch_names.specs.declared.fault.Sort.TheVariants as sort
use Rattle.arch_types.specs.declared.fault.Want.{Want}
use Rattle.arch_types.specs.declared.fault.Want.TheVariants as want
use Rattle.arch_checks.specs.declared.fault.What.{What}
use Rattle.arch_checks.specs.declared.fault.What.TheVariants as what
use Rattle.arch_checks.specs.declared.fault.Fault.{Fault}
use Rattle.arch_checks.specs.declared.fault.Fault.TheVariants as fault
use Rattle.tower_report.specs.Bytes.{Bytes, line}

-- what a name is declared as, or is to be
abbrev pub sort_text : Sort → Bytes
sort_text sort.Record = codes "record"
sort_text sort.Source = codes "source"
sort_text sort.Channel = codes "channel"
sort_text sort.SourceOrChannel = codes "source-or-channel"
sort_text sort.Output = codes "output"
sort_text sort.Monitor = codes "monitor"
sort_text sort.Handler = codes "handler"

-- what a type is to be
abbrev pub want_text : Want → Bytes
want_text want.Scalar = codes "scalar"
want_text want.Number = codes "number"
want_text want.Unsigned = codes "unsigned"
want_text want.Array = codes "array"
want_text want.Record = codes "record"
want_text (want.Exactly text) = text

-- what there is too much of
abbrev pub what_text : What → Bytes
what_text what.Sources = codes "sources"
what_text what.Channels = codes "channels"
what_text what.Outputs = codes "outputs"
what_text what.Monitors = codes "monitors"
what_text what.Handlers = codes "handlers"
what_text what.Records = codes "records"
what_text what.Depth = codes "depth"
what_text what.Words = codes "words"
what_text what.Chain = codes "chain"
what_text what.Memory = codes "memory"
what_text what.Code = codes "code"

-- a walk with its first handler again at its end
abbrev pub round : List Bytes → List Bytes
round walk = walk ++ take 1 walk

-- want of memory is no fault of a file
abbrev pub fault_words : Fault → List Bytes
fault_words (fault.Long limit) = codes "long" ∷ decimal limit ∷ []
fault_words (fault.Byte at) = codes "byte" ∷ decimal at ∷ []
fault_words (fault.Unopened at) = codes "unopened" ∷ decimal at ∷ []
fault_words (fault.Nest at) = codes "nest" ∷ decimal at ∷ []
fault_words (fault.Unclosed at) = codes "unclosed" ∷ decimal at ∷ []
fault_words fault.Empty = codes "empty" ∷ []
fault_words (fault.Form at) = codes "form" ∷ decimal at ∷ []
fault_words (fault.Number at) = codes "number" ∷ decimal at ∷ []
fault_words (fault.Length at) = codes "length" ∷ decimal at ∷ []
fault_words (fault.Twice at first) = codes "twice" ∷ decimal at ∷ decimal first ∷ []
fault_words (fault.Unknown at) = codes "unknown" ∷ decimal at ∷ []
fault_words (fault.Kind at want found) = codes "kind" ∷ decimal at ∷ sort_text want ∷ sort_text found ∷ []
fault_words (fault.Mismatch at want found) = codes "mismatch" ∷ decimal at ∷ want_text want ∷ found ∷ []
fault_words (fault.NotPlace at) = codes "notplace" ∷ decimal at ∷ []
fault_words (fault.Field at) = codes "field" ∷ decimal at ∷ []
fault_words (fault.Range at) = codes "range" ∷ decimal at ∷ []
fault_words (fault.Deep at depth) = codes "deep" ∷ decimal at ∷ decimal depth ∷ []
fault_words (fault.Bound handler emitter most bound) = codes "bound" ∷ handler ∷ emitter ∷ decimal most ∷ decimal bound ∷ []
fault_words (fault.Cycle source walk) = codes "cycle" ∷ source ∷ round walk
fault_words (fault.Size what count limit) = codes "size" ∷ what_text what ∷ decimal count ∷ decimal limit ∷ []
fault_words (fault.Work source cost) = codes "work" ∷ source ∷ decimal cost ∷ []
fault_words fault.NoMemory = []

abbrev pub fault_line : Fault → Bytes
fault_line f = line (codes "refused:" ∷ fault_words f)
