-- Texts with their numbered trees: what each use refers to.
use Rattle.std.specs.Prelude.{ℕ, List, ◌++◌, codes}
use Rattle.arch_names.specs.WorkedNames.{numbers_linked, numbers_anew_linked}
use Rattle.arch_checks.specs.Offences.{IsNamed}

abbrev pub numbers : List ℕ
numbers =
    codes "(tower t (init i 1) (record r (field f u8)) (init j 2) (channel c r) (monitor m (state x u8) (handler h j "
    ++ codes "(emitter e c 1) (emitter g c 1) (callback v (for k 2 (let a x)) (if true (then (let a v)) (else (local b r))) "
    ++ codes "(let d x) (set y d) (emit g y))) (state y u8)))"

abbrev pub numbers_anew : List ℕ
numbers_anew =
    codes "(tower t (record r (field f u8)) (record s (field f r)) (channel c u8) (channel d s) (monitor m (state x u8) "
    ++ codes "(handler h c (emitter e c 1) (emitter g d 1) (callback v (for k 2 (let a x) (set x a)) (emit g v)) (callback v "
    ++ codes "(let a x) (set x a))) (handler k d (emitter e d 1) (callback v (emit e v)))) (monitor n (state y u8) (state x "
    ++ codes "u8) (handler l c (callback v (copy x y)))))"

pub record WorkedNumbers : Type 0 where
  -- binders count over the callback, states over the monitor, and the others over the file
  pub over_the_file : IsNamed numbers numbers_linked
  -- each record, monitor, handler and callback begins at 0
  pub anew : IsNamed numbers_anew numbers_anew_linked
