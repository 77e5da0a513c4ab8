-- Where the parts of a frame lie.
use Rattle.std.proofs.Common.{◌≡◌, ℕ, zero, suc, ◌+◌, ◌≤◌, List, [], ◌∷◌, map, sum, Some, sym, subst, arith, slice_get, slice_index_or}
use Rattle.std.proofs.lemmas.Option.{same_Some, none-some}
use Rattle.tower_syntax.specs.Arch.{Arch}
use Rattle.tower_syntax.specs.Graph.{handler}
use Rattle.tower_syntax.specs.Weights.{emitter_words}
use Rattle.task_code.specs.declared.frame.Frame.{Frame}
use Rattle.task_code.proofs.Lists.{cons_sum}
use Rattle.stmt_code.specs.FrameOf.{frame_of, laid}
use Rattle.emit_code.specs.Entries.{HasParts}
use Rattle.emit_code.proofs.Listed.{get_mapped}

-- each part lies between the first and the end
pub laid_within : (ns : List ℕ) (k a w : ℕ) → slice_get ns k ≡ Some w → (a ≤ slice_index_or (laid a ns) k 0) × (slice_index_or (laid a ns) k 0 + w ≤ a + sum ns)
laid_within [] k a w e = absurd (none-some w e)
laid_within (n ∷ ns) zero a w e =
    let total : sum (n ∷ ns) ≡ n + sum ns = cons_sum n ns in
    let same : n ≡ w = same_Some n w e in
    (omega arith, omega (arith, total, same))
laid_within (n ∷ ns) (suc k) a w e =
    let total : sum (n ∷ ns) ≡ n + sum ns = cons_sum n ns in
    let r = laid_within ns k (a + n) w e in
    let low : a + n ≤ slice_index_or (laid (a + n) ns) k 0 = r.0 in
    let high : slice_index_or (laid (a + n) ns) k 0 + w ≤ a + n + sum ns = r.1 in
    (omega (arith, low), omega (arith, high, total))

inner_of : (arch : Arch) (h base buffer : ℕ) → HasParts arch h (frame_of arch h base buffer)
inner_of arch h base buffer = record {
  message = omega arith;
  counter = omega arith;
  scratch = λ k e at. laid_within (map (emitter_words arch) (handler arch h).emitters) k _ (emitter_words arch e) (get_mapped (emitter_words arch) (handler arch h).emitters k e at);
}

pub inner : (arch : Arch) (h : ℕ) (f : Frame) → f ≡ frame_of arch h f.param f.first_buffer → HasParts arch h f
inner arch h f e = subst (HasParts arch h) (sym e) (inner_of arch h f.param f.first_buffer)
