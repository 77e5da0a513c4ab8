-- Numbers that grow by at least what statements emit, and a log by which they are taken back.
use Rattle.std.proofs.Common.{◌≡◌, max, set, get_or-set_other, cond, eqb, ℕ, zero, suc, ◌+◌, ◌*◌, ◌<◌, ◌≤◌, ◌^◌, ◌-◌, List, [], ◌∷◌, ◌++◌, length, get_or, take, min, inl, inr, arith, sym, refl, ◌∙◌, ap, subst}
use Rattle.std.proofs.lemmas.Bool.{cases_lt, cases_eq, eq-eqb, ne_eqb}
use Rattle.std.proofs.lemmas.List.{take_more, length_push, same_from_push, set-set, set-get_or}
use Rattle.std.proofs.Math.Nat.{le-mul_of_pos_right}
use Rattle.tower_types.specs.Records.{saturated}
use Rattle.tower_syntax.specs.declared.body.Stmt.{Stmt as StmtValue}
use Rattle.tower_syntax.specs.declared.body.Stmt.TheVariants as stmt
use Rattle.tower_syntax.specs.View.{stmt_of, all_stmts_of}
use Rattle.tower_syntax.specs.Weights.{most_of_stmt, most_of_stmts}
use Rattle.tower_syntax.proofs.Views.{stmt_of-Loop}
use Rattle.channel_graph.specs.declared.rough.Noted.{Noted}
use Rattle.channel_graph.specs.declared.rough.Counts.{Counts}
use Rattle.channel_graph.specs.Rough.{GrowsBy, Tops, Covers, Changes, Logs, same, more, peak_at}
use Rattle.channel_graph.proofs.Counted.{most_of_stmts-more}

grows_then : (f g h : ℕ → ℕ) (a b c : List ℕ) → GrowsBy f a b → GrowsBy g b c → ((e : ℕ) → h e ≤ f e + g e) → GrowsBy h a c
grows_then f g h a b c m n less = record {
  each = n.each ∙ m.each;
  least = λ e below. let inside : e < length b = omega (arith, m.each) in omega (arith, m.least e below, n.least e inside, less e);
}

grows_less : (f g : ℕ → ℕ) (a b : List ℕ) → GrowsBy f a b → ((e : ℕ) → saturated (g e) ≤ saturated (f e)) → GrowsBy g a b
grows_less f g a b m less = record { each = m.each; least = λ e below. omega (arith, m.least e below, less e) }

-- a product with a number that was cut
cut_product : (m t n : ℕ) → min m (t * n) ≤ min m (min t m * n)
cut_product m t zero = omega arith
cut_product m t (suc n) = elim (cases_lt m t) [
  | inl h ↦ let e : min t m ≡ m = omega arith in rw e (omega (arith, le-mul_of_pos_right {m = suc n} m (omega arith)))
  | inr h ↦ let e : min t m ≡ t = omega arith in rw e (omega arith)
]

-- the turns of a loop inside others
turns_inside : (turns times all n : ℕ) → all ≡ min (turns * times) (2 ^ 64 - 1) → saturated (turns * (times * n)) ≤ saturated (all * n)
turns_inside turns times all n e =
    let grouped : turns * (times * n) ≡ turns * times * n = omega arith in
    let cut : min (2 ^ 64 - 1) (turns * times * n) ≤ min (2 ^ 64 - 1) (min (turns * times) (2 ^ 64 - 1) * n) = cut_product (2 ^ 64 - 1) (turns * times) n in
    let same : all * n ≡ min (turns * times) (2 ^ 64 - 1) * n = ap (λ k. k * n) e in
    omega arith

-- no statement
pub no_stmts_more : (turns : ℕ) (ss : List StmtValue) (a : List ℕ) → GrowsBy (λ e. turns * most_of_stmts e (all_stmts_of (take 0 ss))) a a
no_stmts_more turns ss a = record { each = refl; least = λ e below. omega arith }

-- one more statement
pub stmts_more : (turns i : ℕ) (ss : List StmtValue) (d : StmtValue) (a b c : List ℕ) → i < length ss → d ≡ get_or ss i d → GrowsBy (λ e. turns * most_of_stmts e (all_stmts_of (take i ss))) a b → GrowsBy (λ e. turns * most_of_stmt e (stmt_of d)) b c → GrowsBy (λ e. turns * most_of_stmts e (all_stmts_of (take (i + 1) ss))) a c
stmts_more turns i ss d a b c within read m n =
    grows_then (λ e. turns * most_of_stmts e (all_stmts_of (take i ss))) (λ e. turns * most_of_stmt e (stmt_of d)) (λ e. turns * most_of_stmts e (all_stmts_of (take (i + 1) ss))) a b c m n
    (λ e.
    let grown : turns * most_of_stmts e (all_stmts_of (take (i + 1) ss)) ≡ turns * (most_of_stmts e (all_stmts_of (take i ss)) + most_of_stmt e (stmt_of d)) = ap (λ x. turns * x) (most_of_stmts-more e ss i d within ∙ ap (λ s. most_of_stmts e (all_stmts_of (take i ss)) + most_of_stmt e (stmt_of s)) (sym read)) in
    omega arith)

-- a loop, by its body in all turns
pub loop_more : (turns b times all : ℕ) (ss : List StmtValue) (a c : List ℕ) → all ≡ min (turns * times) (2 ^ 64 - 1) → GrowsBy (λ e. all * most_of_stmts e (all_stmts_of ss)) a c → GrowsBy (λ e. turns * most_of_stmt e (stmt_of (stmt.Loop b times ss))) a c
loop_more turns b times all ss a c is m =
    grows_less (λ e. all * most_of_stmts e (all_stmts_of ss)) (λ e. turns * most_of_stmt e (stmt_of (stmt.Loop b times ss))) a c m
    (λ e. subst (λ s. saturated (turns * most_of_stmt e s) ≤ saturated (all * most_of_stmts e (all_stmts_of ss))) (sym (stmt_of-Loop b times ss)) (turns_inside turns times all (most_of_stmts e (all_stmts_of ss)) is))

-- ---- the log

pub logs_change : (place total : ℕ) (old new : Counts) → Changes place total old new → Logs old new
logs_change place total old new c = more old new place total same c

pub logs_then : (a b c : Counts) → Logs a b → Logs b c → Logs a c
logs_then a b c m same = m
logs_then a b c m (more mid new place total n last) = more mid new place total (logs_then a b mid m n) last

change_longer : (place total : ℕ) (old new : Counts) → Changes place total old new → length new.log ≡ length old.log + 1
change_longer place total old new c = ap length c.log ∙ length_push old.log (record { place = place; total = get_or old.totals place 0 })

logs_longer : (a b : Counts) → Logs a b → length a.log ≤ length b.log
logs_longer a b same = omega arith
logs_longer a b (more mid new place total m last) = omega (arith, logs_longer a mid m, change_longer place total mid new last)

-- the last change that is logged
pub record LastChange (start new : Counts) : Type 0 where
  pub mid : Counts
  pub place : ℕ
  pub total : ℕ
  pub before : Logs start mid
  pub change : Changes place total mid new
  pub longer : length new.log ≡ length mid.log + 1

pub last_change : (start new : Counts) → Logs start new → length start.log < length new.log → LastChange start new
last_change start new same longer = absurd (omega arith)
last_change start new (more mid end place total m last) longer =
    record { mid = mid; place = place; total = total; before = m; change = last; longer = change_longer place total mid end last }

pub all_undone : (start new : Counts) → Logs start new → length new.log ≤ length start.log → new ≡ start
all_undone start new same short = refl
all_undone start new (more mid end place total m last) short = absurd (omega (arith, logs_longer start mid m, change_longer place total mid end last))

both_same : (a b : Counts) → a.totals ≡ b.totals → a.log ≡ b.log → a ≡ b
both_same a b totals log =
    let made : List ℕ → List Noted → Counts = λ ts ns. record { totals = ts; log = ns } in
    ap (λ ts. made ts a.log) totals ∙ ap (λ ns. made b.totals ns) log

-- the last change of a log, taken back
pub undone : (place total : ℕ) (mid old new : Counts) (last : Noted) → Changes place total mid old → old.log ≡ new.log ++ last ∷ [] → new.totals ≡ set old.totals last.place last.total → new ≡ mid
undone place total mid old new last c log totals =
    let was : ℕ = get_or mid.totals place 0 in
    let logged = same_from_push mid.log new.log (record { place = place; total = was }) last (sym c.log ∙ log) in
    let back : set old.totals place was ≡ mid.totals = ap (λ ts. set ts place was) c.totals ∙ set-set mid.totals place total was ∙ set-get_or mid.totals place 0 in
    both_same new mid (totals ∙ ap (λ n. set old.totals n.place n.total) (sym logged.1) ∙ back) (sym logged.0)

-- one change more is taken back
pub undone_more : (start from old new : Counts) (mark n : ℕ) → Logs start old × (length old.log + n ≡ length from.log + mark) → length start.log ≡ mark → n < length from.log → ((mid : Counts) (place total : ℕ) → Changes place total mid old → new ≡ mid) → Logs start new × (length new.log + (n + 1) ≡ length from.log + mark)
undone_more start from old new mark n kept at within back =
    let longer : length start.log < length old.log = omega (arith, kept.1) in
    let last = last_change start old kept.0 longer in
    let is : new ≡ last.mid = back last.mid last.place last.total last.change in
    let shorter : length new.log ≡ length last.mid.log = ap (λ c. length c.log) is in
    (subst (Logs start) (sym is) last.before, omega (arith, kept.1, last.longer, shorter))

-- ---- peaks

noted_here : (place total e : ℕ) → place ≡ e → cond (eqb place e) total 0 ≡ total
noted_here place total e here = ap (λ b. cond b total 0) (eq-eqb place e here)

noted_elsewhere : (place total e : ℕ) → (place ≡ e → ⊥) → cond (eqb place e) total 0 ≡ 0
noted_elsewhere place total e other = ap (λ b. cond b total 0) (ne_eqb place e other)

peak_push : (ns : List Noted) (n : Noted) (e : ℕ) → peak_at (ns ++ n ∷ []) e ≡ max (peak_at ns e) (cond (eqb n.place e) n.total 0)
peak_push [] n e = omega arith
peak_push (m ∷ ns) n e = omega (arith, peak_push ns n e)

pub covers_then : (a b c : List ℕ) (xs ys zs : List Noted) → Covers a xs b ys → Covers b ys c zs → Covers a xs c zs
covers_then a b c xs ys zs m n e = omega (arith, m e, n e)

covers_set : (old : List ℕ) (ns : List Noted) (n : Noted) (total : ℕ) → n.total ≡ get_or old n.place 0 → Covers old ns (set old n.place total) (ns ++ n ∷ [])
covers_set old ns n total is e = elim (cases_eq n.place e) [
  | inl here ↦
      let at : get_or old e 0 ≡ get_or old n.place 0 = ap (λ i. get_or old i 0) (sym here) in
      omega (arith, peak_push ns n e, noted_here n.place n.total e here)
  | inr other ↦
      omega (arith, peak_push ns n e, noted_elsewhere n.place n.total e other, get_or-set_other old n.place e total 0 (λ s. other (sym s)))
]

-- a total that is noted and then replaced
pub covers_change : (old new : List ℕ) (ns ms : List Noted) (n : Noted) (total : ℕ) → n.total ≡ get_or old n.place 0 → new ≡ set old n.place total → ms ≡ ns ++ n ∷ [] → Covers old ns new ms
covers_change old new ns ms n total is put noted =
    subst (Covers old ns new) (sym noted) (subst (λ ts. Covers old ns ts (ns ++ n ∷ [])) (sym put) (covers_set old ns n total is))

pub tops_none : (old : List ℕ) → Tops old [] old
tops_none old = record { each = refl; own = λ e below. omega arith; peak = λ e below. omega arith }

tops_then : (a b c : List ℕ) (ns : List Noted) (n : Noted) → Tops a ns b → Tops b (n ∷ []) c → Tops a (ns ++ n ∷ []) c
tops_then a b c ns n s t = record {
  each = t.each ∙ s.each;
  own = λ e below. let inside : e < length b = omega (arith, s.each) in omega (arith, s.own e below, t.own e inside);
  peak = λ e below. let inside : e < length b = omega (arith, s.each) in omega (arith, peak_push ns n e, s.peak e below, t.own e inside, t.peak e inside);
}

-- one more peak
pub tops_more : (a b c : List ℕ) (ns : List Noted) (i : ℕ) (d : Noted) → i < length ns → Tops a (take i ns) b → Tops b (get_or ns i d ∷ []) c → Tops a (take (i + 1) ns) c
tops_more a b c ns i d within s t =
    subst (λ peaks. Tops a peaks c) (sym (take_more ns i d within)) (tops_then a b c (take i ns) (get_or ns i d) s t)
