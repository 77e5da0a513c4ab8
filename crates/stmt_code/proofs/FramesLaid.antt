-- The parts of a frame lie one behind the other, and are no more than the weight.
use Rattle.std.proofs.Common.{◌≡◌, ◌∙◌, ℕ, suc, ◌+◌, ◌*◌, ◌≤◌, List, [], ◌∷◌, ◌++◌, length, map, refl, ap, ap₂, subst, arith}
use Rattle.std.specs.Prelude.{sum}
use Rattle.std.proofs.lemmas.List.{length-map}
use Rattle.tower_types.specs.Ty.{Fields, shape_in, table_of, words}
use Rattle.tower_syntax.specs.Arch.{Arch, Emitter, Body}
use Rattle.tower_syntax.specs.Graph.{handler}
use Rattle.tower_syntax.specs.Weights.{emitter_words, message_words, field_shapes}
use Rattle.task_code.proofs.Lists.{cons_sum}
use Rattle.stmt_code.specs.FrameOf.{laid, binder_words, binders_laid, binders_of}
use Rattle.stmt_code.specs.FrameParts.{zipped, names_parts, Consecutive, FramesAreLaidOut}

laid_many : (ns : List ℕ) (a : ℕ) → length (laid a ns) ≡ length ns
laid_many [] a = refl
laid_many (n ∷ ns) a = ap suc (laid_many ns (a + n))

laid_parts : (ns : List ℕ) (a : ℕ) → Consecutive a (zipped (laid a ns) ns) (a + sum ns)
laid_parts [] a = omega arith
laid_parts (n ∷ ns) a =
    let s = cons_sum n ns in
    let z : a + n + sum ns ≡ a + sum (n ∷ ns) = omega (arith, s) in
    (refl, subst (Consecutive (a + n) (zipped (laid (a + n) ns) ns)) z (laid_parts ns (a + n)))

parts_on : (xs ys : List (ℕ × ℕ)) (a b c : ℕ) → Consecutive a xs b → Consecutive b ys c → Consecutive a (xs ++ ys) c
parts_on [] ys a b c e h = subst (λ n. Consecutive n ys c) (sym_of a b e) h
  where
    sym_of : (a b : ℕ) → a ≡ b → b ≡ a
    sym_of a b e = omega (arith, e)
parts_on (x ∷ xs) ys a b c e h = (e.0, parts_on xs ys (x.0 + x.1) b c e.1 h)

module _ (arch : Arch) where
  abbrev body_words : Body → ℕ
  body_words b = sum (binder_words arch b)

  names_many : (bs : List Body) (a : ℕ) → map length (binders_laid arch a bs) ≡ map (λ (b : Body). length b.binders) bs
  names_many [] a = refl
  names_many (b ∷ bs) a =
      ap₂ (λ n ns. n ∷ ns) (laid_many (binder_words arch b) a ∙ length-map b.binders (λ f. words (shape_in (table_of arch.records) f.1))) (names_many bs (a + body_words b))

  names_laid : (bs : List Body) (a : ℕ) → Consecutive a (names_parts arch (binders_laid arch a bs) bs) (a + sum (map body_words bs))
  names_laid [] a = omega arith
  names_laid (b ∷ bs) a =
      let s = cons_sum (body_words b) (map body_words bs) in
      let z : a + body_words b + sum (map body_words bs) ≡ a + sum (map body_words (b ∷ bs)) = omega (arith, s) in
      subst (Consecutive a (names_parts arch (binders_laid arch a (b ∷ bs)) (b ∷ bs))) z
      (parts_on (zipped (laid a (binder_words arch b)) (binder_words arch b)) (names_parts arch (binders_laid arch (a + body_words b) bs) bs) a (a + body_words b) (a + body_words b + sum (map body_words bs))
      (laid_parts (binder_words arch b) a) (names_laid bs (a + body_words b)))

  binder_sum : (fields : Fields) → sum (map (λ f. words (shape_in (table_of arch.records) f.1)) fields) ≡ sum (map words (field_shapes (table_of arch.records) fields))
  binder_sum [] = refl
  binder_sum (f ∷ fs) =
      let c1 = cons_sum (words (shape_in (table_of arch.records) f.1)) (map (λ g. words (shape_in (table_of arch.records) g.1)) fs) in
      let c2 = cons_sum (words (shape_in (table_of arch.records) f.1)) (map words (field_shapes (table_of arch.records) fs)) in
      let r = binder_sum fs in
      omega (arith, c1, c2, r)

  -- the words of names, as they are weighed
  pub bodies_sum : (bs : List Body) → sum (map body_words bs) ≡ sum (map (λ b. sum (map words (field_shapes (table_of arch.records) b.binders))) bs)
  bodies_sum [] = refl
  bodies_sum (b ∷ bs) =
      let c1 = cons_sum (body_words b) (map body_words bs) in
      let c2 = cons_sum (sum (map words (field_shapes (table_of arch.records) b.binders))) (map (λ d. sum (map words (field_shapes (table_of arch.records) d.binders))) bs) in
      let q = binder_sum b.binders in
      let r = bodies_sum bs in
      omega (arith, c1, c2, q, r)

  -- a message of each emitter, and those that its buffer holds
  emitters_sum : (es : List Emitter) → sum (map (emitter_words arch) es) + sum (map (λ e. e.bound * emitter_words arch e) es) ≤ sum (map (λ e. (e.bound + 2) * emitter_words arch e) es)
  emitters_sum [] = omega arith
  emitters_sum (e ∷ es) =
      let c1 = cons_sum (emitter_words arch e) (map (emitter_words arch) es) in
      let c2 = cons_sum (e.bound * emitter_words arch e) (map (λ d. d.bound * emitter_words arch d) es) in
      let c3 = cons_sum ((e.bound + 2) * emitter_words arch e) (map (λ d. (d.bound + 2) * emitter_words arch d) es) in
      let r = emitters_sum es in
      omega (arith, c1, c2, c3, r)

pub laid_out : FramesAreLaidOut
laid_out arch h base buffer =
    let names : ℕ = base + message_words arch (handler arch h).on in
    let temps : ℕ = names + binders_of arch (handler arch h) in
    let sent : List ℕ = map (emitter_words arch) (handler arch h).emitters in
    let q1 = bodies_sum arch (handler arch h).callbacks in
    let q2 = emitters_sum arch (handler arch h).emitters in
    record {
      names = names_many arch (handler arch h).callbacks names;
      emitters = laid_many sent (temps + 3) ∙ length-map (handler arch h).emitters (emitter_words arch);
      parts = (refl, parts_on (names_parts arch (binders_laid arch names (handler arch h).callbacks) (handler arch h).callbacks) ((temps, 3) ∷ zipped (laid (temps + 3) sent) sent) names temps (temps + 3 + sum sent) (names_laid arch (handler arch h).callbacks names) (refl, laid_parts sent (temps + 3)));
      first = refl;
      small = omega (arith, q1, q2);
    }
