-- The lines of small files, computed.
use Rattle.std.proofs.Common.{refl, lit≤, arith, pos, [], ◌∷◌, codes, None}
use Rattle.std.proofs.lemmas.Int.{ints}
use Rattle.std.proofs.lemmas.List.Elements.{All-nil, All-cons}
use Rattle.std.specs.Fmt.{digits}
use Rattle.tower_types.specs.declared.scalar.Scalar.TheVariants.{U32}
use Rattle.tower_types.specs.declared.scalar.BinOp.TheVariants.{Add}
use Rattle.tower_syntax.specs.RawTree.{Id, RawStmt, RawHpart, RawPart, RawItem, lit, bin, set, stmt, no_stmts, callback, state, handler, period, monitor}
use Rattle.tower_syntax.specs.RawExamples.{called, of, place, value, none, clock}
use Rattle.tower_syntax.specs.Printable.{IsPrintable, IsPrintableItem, IsPrintablePart, IsPrintableHpart, IsPrintableStmt}
use Rattle.tower_syntax.specs.WorkedLines.{WorkedLines}

abbrev set_n : RawStmt Id
set_n = set 0 (place (codes "n")) (bin 0 Add (value (codes "n")) (lit 0 U32 (pos 1)))

abbrev tick_callback : RawHpart Id
tick_callback = callback 0 (called (codes "t")) (stmt set_n no_stmts)

abbrev n_state : RawPart Id
n_state = state 0 (called (codes "n")) (of U32)

abbrev tick : RawPart Id
tick = handler 0 (called (codes "tick")) (called (codes "beat")) (tick_callback ∷ [])

abbrev beat : RawItem Id
beat = period 0 (called (codes "beat")) 10 5 None

abbrev count : RawItem Id
count = monitor 0 (called (codes "count")) (n_state ∷ tick ∷ [])

none_is_printable : IsPrintable none
none_is_printable = record { version = (lit≤ tt, lit≤ tt); name = (refl, lit≤ tt); items = All-nil (IsPrintableItem 1); nested = lit≤ tt }

set_n_is_printable : IsPrintableStmt set_n
set_n_is_printable = ((refl, lit≤ tt), ((refl, lit≤ tt), (tt, (omega (arith, ints), omega (arith, ints)))))

tick_is_printable : IsPrintablePart tick
tick_is_printable = ((refl, lit≤ tt), (refl, lit≤ tt), All-cons IsPrintableHpart tick_callback [] ((refl, lit≤ tt), (set_n_is_printable, tt)) (All-nil IsPrintableHpart))

count_is_printable : IsPrintableItem 1 count
count_is_printable = ((refl, lit≤ tt), All-cons IsPrintablePart n_state (tick ∷ []) ((refl, lit≤ tt), tt) (All-cons IsPrintablePart tick [] tick_is_printable (All-nil IsPrintablePart)))

beat_is_printable : IsPrintableItem 1 beat
beat_is_printable = ((refl, lit≤ tt), (lit≤ tt, lit≤ tt), (lit≤ tt, lit≤ tt), refl)

clock_is_printable : IsPrintable clock
clock_is_printable =
    record {
      version = (lit≤ tt, lit≤ tt);
      name = (refl, lit≤ tt);
      items = All-cons (IsPrintableItem 1) beat (count ∷ []) beat_is_printable (All-cons (IsPrintableItem 1) count [] count_is_printable (All-nil (IsPrintableItem 1)));
      nested = lit≤ tt;
    }

pub worked_lines : WorkedLines
unfolding digits
worked_lines =
    record {
      none_line = refl;
      clock_line = refl;
      burst_line = refl;
      every_line = refl;
      flight_line = refl;
      none_is_printable = none_is_printable;
      clock_is_printable = clock_is_printable;
    }
