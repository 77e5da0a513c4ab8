-- The words of a zero value.
use Rattle.std.proofs.Common.{◌≡◌, ℕ, zero, suc, ◌+◌, ◌*◌, ◌≤◌, ℤ, pos, List, ◌∷◌, ◌++◌, length, refl, ap, ◌∙◌, arith, replicate, slice_set}
use Rattle.tower_types.specs.Ty.{Shape, one, many, all, Shapes, no_shapes, shape, words, words_of_all}
use Rattle.tower_types.specs.Value.{Value, flat, flat_all, zero_of, zeros_of, copies}
use Rattle.task_code.specs.Own.{Own}
use Rattle.task_code.specs.Piece.{end, Stands}
use Rattle.stmt_code.specs.Body.{zeroed}
use Rattle.stmt_code.proofs.OneStep.{Context, Leads, at, stay, wider, on, push, store}
use Rattle.stmt_code.proofs.Stored.{Wrote, wrote_one, wrote_none, wrote_next}

replicate_add : (m n : ℕ) (x : ℤ) → replicate m x ++ replicate n x ≡ replicate (m + n) x
replicate_add zero n x = let e : n ≡ 0 + n = omega arith in ap (λ k. replicate k x) e
replicate_add (suc m) n x = let e : suc (m + n) ≡ suc m + n = omega arith in ap (λ l. x ∷ l) (replicate_add m n x) ∙ ap (λ k. replicate k x) e

copies_flat : (n m : ℕ) (v : Value) → flat v ≡ replicate m (pos 0) → flat_all (copies n v) ≡ replicate (n * m) (pos 0)
copies_flat zero m v e = let z : 0 ≡ 0 * m = omega arith in ap (λ k. replicate k (pos 0)) z
copies_flat (suc n) m v e =
    let z : m + n * m ≡ suc n * m = omega arith in
    ap (λ l. l ++ flat_all (copies n v)) e ∙ ap (λ l. replicate m (pos 0) ++ l) (copies_flat n m v e) ∙ replicate_add m (n * m) (pos 0) ∙ ap (λ k. replicate k (pos 0)) z

mutual
  pub zero_flat : (s : Shape) → flat (zero_of s) ≡ replicate (words s) (pos 0)
  zero_flat (one s) = refl
  zero_flat (many n s) = copies_flat n (words s) (zero_of s) (zero_flat s)
  zero_flat (all ss) = zeros_flat ss

  zeros_flat : (ss : Shapes) → flat_all (zeros_of ss) ≡ replicate (words_of_all ss) (pos 0)
  zeros_flat no_shapes = refl
  zeros_flat (shape s ss) = ap (λ l. l ++ flat_all (zeros_of ss)) (zero_flat s) ∙ ap (λ l. replicate (words s) (pos 0) ++ l) (zeros_flat ss) ∙ replicate_add (words s) (words_of_all ss) (pos 0)

pub record Zeroed (r : Context) (o : Own) (n a p : ℕ) (st : List ℤ) : Type 0 where
  pub to : List ℤ
  pub leads : Leads r (2 * n) (at o a st) (at (record o { words = to }) (end a (zeroed p n)) st)
  pub wrote : Wrote o.words p (replicate n (pos 0)) to

pub zeroed_leads : (r : Context) (n : ℕ) (o : Own) (a p : ℕ) (st : List ℤ) → Stands r.task.code a (zeroed p n) → length st + 1 ≤ 64 → p + n ≤ length o.words → Zeroed r o n a p st
zeroed_leads r zero o a p st h len lt = record { to = o.words; leads = wider r 0 (2 * 0) _ _ (stay r _) (omega arith); wrote = wrote_none o.words p }
zeroed_leads r (suc n) o a p st h len lt =
    let one' = wrote_one o.words p (pos 0) (omega arith) in
    let u : Own = record o { words = slice_set o.words p (pos 0) } in
    let rest = zeroed_leads r n u (suc (suc a)) (suc p) st h.1.1 len (let q = one'.size in omega (arith, q, lt)) in
    record {
      to = rest.to;
      leads = wider r (1 + (1 + 2 * n)) _ _ _ (on r 1 (1 + 2 * n) _ _ _ (push r o a st (pos 0) h.0 (omega arith)) (on r 1 (2 * n) _ _ _ (store r o (suc a) st p (pos 0) h.1.0) rest.leads)) (omega arith);
      wrote = wrote_next o.words p (pos 0) (replicate n (pos 0)) u.words rest.to one' rest.wrote;
    }
