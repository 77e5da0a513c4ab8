-- What was read of an order is what the text spells, or its first fault.
use Rattle.std.proofs.Common.{◌≡◌, ◌<◌, ◌≤◌, ℕ, List, [], ◌∷◌, refl, length, arith, Some}
use Rattle.std.specs.Prelude.{All, Ok, bytes_eq, position}
use Rattle.std.proofs.lemmas.List.Elements.{All-push}
use Rattle.tower_syntax.specs.declared.event.Mark.{Mark}
use Rattle.tower_syntax.specs.Arch.{Arch, Source}
use Rattle.event_record.specs.declared.order.Act.{Act}
use Rattle.event_record.specs.declared.order.Act.TheVariants.{Starts, Runs, Puts}
use Rattle.event_record.specs.declared.order.OrderFault.{OrderFault}
use Rattle.event_record.specs.declared.order.OrderFault.TheVariants as fault
use Rattle.event_record.specs.Lines.{Bytes, lines, words}
use Rattle.event_record.specs.Format.{byte_limit, Spells}
use Rattle.event_record.specs.Judged.{walk}
use Rattle.event_record.specs.Order.{source_named, source_at, mark_of, MakesMarks, nothing, an_arrival, one_mark, order_format, SpellsOrder, IsOrderFault, NamesSource}
use Rattle.event_record.specs.OrderLine.{judge_mark, over_marks, IsTold}
use Rattle.event_record.proofs.Exact.{spells, first_fault}
use Rattle.event_record.proofs.ChoicesRead.{all_hold}
use Rattle.event_record.proofs.Positions.{position_below}
use Rattle.event_record.proofs.OrderAgree.{order_agrees}

pub order_spelled : (arch : Arch) (text : Bytes) (all : List Mark) → length text ≤ byte_limit → walk (judge_mark arch) over_marks 1 [] (lines text) ≡ Ok all → SpellsOrder arch text all
order_spelled arch text all h w = spells (order_agrees arch) text all h refl w

pub order_told : (arch : Arch) (text : Bytes) (f : OrderFault) → length text ≤ byte_limit → IsTold (walk (judge_mark arch) over_marks 1 [] (lines text)) f → IsOrderFault arch text f
order_told arch text (fault.At n k) h w = first_fault (order_agrees arch) text n k h w
order_told arch text fault.NoMemory h w = tt

names : (arch : Arch) (a : Act) (name : Bytes) (x : ℕ) → source_named arch name ≡ Some x → NamesSource arch (mark_of a x)
names arch Starts name x h = position_below (λ s. bytes_eq s.name name) arch.sources x h
names arch Runs name x h = position_below (λ s. bytes_eq s.name name) arch.sources x h
names arch Puts name x h = position_below (λ s. bytes_eq s.name name) arch.sources x h

line_names : (arch : Arch) (l : Bytes) (new : List Mark) → MakesMarks arch l new → All (NamesSource arch) new
line_names arch l new (nothing h) = λ k d g. absurd (omega (arith, g))
line_names arch l new (an_arrival e f) = All-push (NamesSource arch) [] _ (λ k d g. absurd (omega (arith, g))) tt
line_names arch l new (one_mark {act = a} {name = name} {x = x} e f g) = All-push (NamesSource arch) [] (mark_of a x) (λ k d g. absurd (omega (arith, g))) (names arch a name x g)

pub order_names : (arch : Arch) (text : Bytes) (all : List Mark) → SpellsOrder arch text all → All (NamesSource arch) all
order_names arch text all s = all_hold (order_format arch) (NamesSource arch) (line_names arch) (lines text) all s.makes
