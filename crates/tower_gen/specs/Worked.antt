-- Worked items of a generated file, as they are printed.
use Rattle.std.specs.Prelude.{◌≡◌, codes}
use Rattle.tower_syntax.specs.Form.{text}
use Rattle.tower_syntax.specs.Printed.{item_form}
use Rattle.tower_gen.specs.Draws.{Drawn}
use Rattle.tower_gen.specs.File.{period_item, output_item, monitor_item}

-- where 7 is drawn
abbrev pub sevens : Drawn
sevens = record { ms = λ i. 17; priority = λ i. 7; factor = λ i. 7 }

abbrev pub WorkedItems : Type 0
WorkedItems =
    (text (item_form (monitor_item sevens 5)) ≡ codes "(monitor m5 (state a u32) (state v (array 8 u32)) (state pos (ix 8)) (handler h5 p5 (emitter e c1 1) (callback x (set (at v pos) (cast u32 x)) (set pos (+ pos (ix 8 1))) (for i 8 (set a (+ (* a (u32 7)) (at v i)))) (emit e a))))")
    × (text (item_form (monitor_item sevens 47)) ≡ codes "(monitor m47 (state a u32) (state v (array 8 u32)) (state pos (ix 8)) (handler h47 c7 (emitter e c11 1) (callback x (set (at v pos) x) (set pos (+ pos (ix 8 1))) (for i 8 (set a (+ (* a (u32 7)) (at v i)))) (emit e a))))")
    × (text (item_form (monitor_item sevens 63)) ≡ codes "(monitor m63 (state a u32) (state v (array 8 u32)) (state pos (ix 8)) (handler h63 c15 (callback x (set (at v pos) x) (set pos (+ pos (ix 8 1))) (for i 8 (set a (+ (* a (u32 7)) (at v i)))))))")
    × (text (item_form (output_item 3)) ≡ codes "(output o3 c15)")
    × (text (item_form (period_item sevens 31)) ≡ codes "(period p31 17 7)")
