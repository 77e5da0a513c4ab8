-- What is computed, each by one step of the check.
use Rattle.std.proofs.Common.{refl}
use Rattle.std.specs.Fmt.{digits}
use Rattle.tower_gen.specs.Worked.{WorkedItems}
use Rattle.tower_gen.specs.Rows.{NamesFit, Outlined, NamesOnce, HandlersOf, KnownAll, Callbacks, Emitters, Hearing, Rises, LowRanks, Bounded, Costs, Memory, Code, Widths, PeriodNames, ChannelNames, OutputNames, MonitorNames, HandlerNames, UseNames, ToldNames, Nested, Capped}

pub names_fit : NamesFit
unfolding digits
names_fit = λ d. refl

pub outlined : Outlined
unfolding digits
outlined = λ d. refl

pub names_once : NamesOnce
unfolding digits
names_once = λ d. refl

pub handlers_of : HandlersOf
unfolding digits
handlers_of = λ d. refl

pub known_all : KnownAll
unfolding digits
known_all = λ d. refl

pub callbacks : Callbacks
unfolding digits
callbacks = λ d. refl

pub emitters : Emitters
unfolding digits
emitters = λ d. refl

pub hearing : Hearing
unfolding digits
hearing = refl

pub rises : Rises
unfolding digits
rises = λ d. refl

pub low_ranks : LowRanks
unfolding digits
low_ranks = refl

pub bounded : Bounded
unfolding digits
bounded = λ d. refl

pub costs : Costs
unfolding digits
costs = λ d. refl

pub memory : Memory
unfolding digits
memory = λ d. refl

pub code : Code
unfolding digits
code = λ d. refl

pub widths : Widths
unfolding digits
widths = λ d. (refl, refl)

pub period_names : PeriodNames
unfolding digits
period_names = refl

pub channel_names : ChannelNames
unfolding digits
channel_names = refl

pub output_names : OutputNames
unfolding digits
output_names = refl

pub monitor_names : MonitorNames
unfolding digits
monitor_names = refl

pub handler_names : HandlerNames
unfolding digits
handler_names = refl

pub use_names : UseNames
unfolding digits
use_names = refl

pub told_names : ToldNames
unfolding digits
told_names = refl

pub nested : Nested
unfolding digits
nested = λ d. refl

pub capped : Capped
unfolding digits
capped = λ d. refl

pub worked_items : WorkedItems
unfolding digits
worked_items = (refl, refl, refl, refl, refl)
