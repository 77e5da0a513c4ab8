-- Frames and places that are looked up by the handlers' numbers.
use Rattle.std.proofs.Common.{◌≡◌, ◌∙◌, ◌⊎◌, inl, inr, ℕ, zero, suc, ◌+◌, ◌<◌, ◌≤◌, List, [], ◌∷◌, ◌++◌, length, replicate, drop, get_or, Option, Some, None, All, refl, sym, ap, subst, arith, append_assoc, slice_get, slice_set, length-set}
use Rattle.std.proofs.lemmas.Bool.{cases_eq, cases_lt}
use Rattle.std.proofs.lemmas.List.{drop_all, length-append, replicate-append-replicate}
use Rattle.std.proofs.Math.Seq.{drop-cons}
use Rattle.tower_syntax.specs.Arch.{Arch}
use Rattle.tower_syntax.specs.Graph.{handler}
use Rattle.task_code.specs.declared.frame.Frame.{Frame}
use Rattle.task_code.specs.declared.frame.Frames.{Frames}
use Rattle.task_code.proofs.Lists.{set_same, set_other}
use Rattle.stmt_code.specs.FrameOf.{frame_of}
use Rattle.emit_code.specs.Delivery.{Entry, no_entry}
use Rattle.emit_code.specs.Framed.{HasEntry}
use Rattle.emit_code.proofs.Looked.{found, entry_looked, entry_here, entry_there}
use Rattle.task_build.specs.CodeOf.{frames_from, end_of}
use Rattle.task_build.specs.Tables.{entries_at, Agrees}

-- ---- frames, one behind the other

pub frames_length : (arch : Arch) (base buffer : ℕ) (hs : List ℕ) → length (frames_from arch base buffer hs) ≡ length hs
frames_length arch base buffer [] = refl
frames_length arch base buffer (h ∷ hs) =
    let f : Frame = frame_of arch h base buffer in
    ap suc (frames_length arch f.end (buffer + length (handler arch h).emitters) hs)

pub drop_next : {X : Type 0} (xs : List X) (i : ℕ) (d : X) → i < length xs → drop i xs ≡ get_or xs i d ∷ drop (i + 1) xs
drop_next xs i d h = let next : suc i ≡ i + 1 = omega arith in drop-cons xs i d h ∙ ap (λ j. get_or xs i d ∷ drop j xs) next

-- one frame more, and the rest
pub frames_next : (arch : Arch) (hs : List ℕ) (i h base buffer base' buffer' : ℕ) (f : Frame) (old new whole : List Frame) → i < length hs → h ≡ get_or hs i 0
    → old ++ frames_from arch base buffer (drop i hs) ≡ whole → f ≡ frame_of arch h base buffer → new ≡ old ++ f ∷ [] → base' ≡ f.end → buffer' ≡ buffer + length (handler arch h).emitters
    → new ++ frames_from arch base' buffer' (drop (i + 1) hs) ≡ whole
frames_next arch hs i h base buffer base' buffer' f old new whole within read before is grown ends counts =
    let rest : List ℕ = drop (i + 1) hs in
    let g : Frame = frame_of arch h base buffer in
    let ends_so : base' ≡ g.end = ends ∙ ap (λ (z : Frame). z.end) is in
    let cut : drop i hs ≡ h ∷ rest = drop_next hs i 0 within ∙ ap (λ k. k ∷ rest) (sym read) in
    (λ t. grown t ++ frames_from arch (ends_so t) (counts t) rest)
    ∙ append_assoc old (f ∷ []) (frames_from arch g.end (buffer + length (handler arch h).emitters) rest)
    ∙ ap (λ z. old ++ (z ∷ frames_from arch g.end (buffer + length (handler arch h).emitters) rest)) is
    ∙ ap (λ ks. old ++ frames_from arch base buffer ks) (sym cut)
    ∙ before

append-none : {X : Type 0} (xs : List X) → xs ++ [] ≡ xs
append-none [] = refl
append-none (x ∷ xs) = ap (λ ys. x ∷ ys) (append-none xs)

pub frames_all : (arch : Arch) (hs : List ℕ) (i base buffer : ℕ) (old whole : List Frame) → length hs ≤ i → old ++ frames_from arch base buffer (drop i hs) ≡ whole → old ≡ whole
frames_all arch hs i base buffer old whole past before =
    sym (append-none old) ∙ ap (λ ks. old ++ frames_from arch base buffer ks) (sym (drop_all i hs past)) ∙ before

pub end_of-push : (a : ℕ) (fs : List Frame) (f : Frame) → end_of a (fs ++ f ∷ []) ≡ f.end
end_of-push a [] f = refl
end_of-push a (g ∷ gs) f = end_of-push g.end gs f

-- ---- tables with nothing in them

pub replicate_more : {X : Type 0} (n : ℕ) (x : X) (old new : List X) → old ≡ replicate n x → new ≡ old ++ x ∷ [] → new ≡ replicate (n + 1) x
replicate_more n x old new before grown = grown ∙ ap (λ xs. xs ++ x ∷ []) before ∙ replicate-append-replicate n 1 x

blank_get : (n k : ℕ) (o : Option (Option Frame)) → (slice_get (replicate n None) k ≡ o) → (o ≡ None) ⊎ (o ≡ Some None)
blank_get zero k o e = inl (sym e)
blank_get (suc n) zero o e = inr (sym e)
blank_get (suc n) (suc k) o e = blank_get n k o e

pub nothing_found : (t : Frames) (n : ℕ) → t.frames ≡ replicate n None → Agrees [] t
nothing_found t n blank k =
    let seen : slice_get (replicate n None) k ≡ slice_get t.frames k = ap (λ fs. slice_get fs k) (sym blank) in
    let none : found k (slice_get t.frames k) (slice_get t.entries k) ≡ no_entry = elim (blank_get n k (slice_get t.frames k) seen) [
      | inl e ↦ ap (λ o. found k o (slice_get t.entries k)) e
      | inr e ↦ ap (λ o. found k o (slice_get t.entries k)) e
    ] in
    sym (entry_looked t k ∙ none)

-- ---- a table that is filled from the last handler on

-- what stands so far: these frames are still to come
pub record Tabled (n : ℕ) (hs : List ℕ) (fs : List Frame) (ps : List ℕ) (made : List Frame) (t : Frames) : Type 0 where
  pub rest : List Frame
  pub whole : made ++ rest ≡ fs
  pub frames : length t.frames ≡ n
  pub entries : length t.entries ≡ n
  pub agrees : Agrees (entries_at (drop (length made) hs) rest (drop (length made) ps)) t
  pub has : (j : ℕ) → length made ≤ j → j < length hs → HasEntry t (get_or hs j 0)

pub replicate_length : {X : Type 0} (n : ℕ) (x : X) → length (replicate n x) ≡ n
replicate_length zero x = refl
replicate_length (suc n) x = ap suc (replicate_length n x)

pub table_begun : (m n : ℕ) (hs : List ℕ) (fs : List Frame) (ps : List ℕ) (made : List Frame) (t : Frames) → m ≡ n → made ≡ fs → length fs ≡ length hs → t.frames ≡ replicate m None → t.entries ≡ replicate m 0 → Tabled n hs fs ps made t
table_begun m n hs fs ps made t many same each frames entries = record {
  rest = [];
  whole = append-none made ∙ same;
  frames = ap length frames ∙ replicate_length m None ∙ many;
  entries = ap length entries ∙ replicate_length m 0 ∙ many;
  agrees =
      let past : length hs ≤ length made = omega (arith, each, ap length same) in
      subst (λ ks. Agrees (entries_at ks [] (drop (length made) ps)) t) (sym (drop_all (length made) hs past)) (nothing_found t m frames);
  has = λ j late early. absurd (omega (arith, late, early, each, ap length same));
}

put_entry : (t u : Frames) (h k p : ℕ) (f : Frame) → u.frames ≡ slice_set t.frames h (Some f) → u.entries ≡ slice_set t.entries h p → h < length t.frames → h < length t.entries → HasEntry t k → HasEntry u k
put_entry t u h k p f framed placed one two has = elim (cases_eq h k) [
  | inl same ↦ record {
    frame = f;
    place = p;
    framed = ap (slice_get u.frames) (sym same) ∙ ap (λ fs. slice_get fs h) framed ∙ set_same t.frames h (Some f) one;
    placed = ap (slice_get u.entries) (sym same) ∙ ap (λ ns. slice_get ns h) placed ∙ set_same t.entries h p two;
  }
  | inr differ ↦ record {
    frame = has.frame;
    place = has.place;
    framed = ap (λ fs. slice_get fs k) framed ∙ set_other t.frames h k (Some f) differ ∙ has.framed;
    placed = ap (λ ns. slice_get ns k) placed ∙ set_other t.entries h k p differ ∙ has.placed;
  }
]

put_agrees : (t u : Frames) (h p : ℕ) (f : Frame) (es : List Entry) → u.frames ≡ slice_set t.frames h (Some f) → u.entries ≡ slice_set t.entries h p → h < length t.frames → h < length t.entries → Agrees es t → Agrees (record { number = h; frame = f; place = p } ∷ es) u
put_agrees t u h p f es framed placed one two agrees k =
    let e : Entry = record { number = h; frame = f; place = p } in
    elim (cases_eq h k) [
      | inl same ↦
          let seen : slice_get u.frames k ≡ Some (Some f) = ap (slice_get u.frames) (sym same) ∙ ap (λ fs. slice_get fs h) framed ∙ set_same t.frames h (Some f) one in
          let at : slice_get u.entries k ≡ Some p = ap (slice_get u.entries) (sym same) ∙ ap (λ ns. slice_get ns h) placed ∙ set_same t.entries h p two in
          entry_here e es k same ∙ ap (λ j. found j (Some (Some f)) (Some p)) same ∙ sym (entry_looked u k ∙ (λ i. found k (seen i) (at i)))
      | inr differ ↦
          let seen : slice_get u.frames k ≡ slice_get t.frames k = ap (λ fs. slice_get fs k) framed ∙ set_other t.frames h k (Some f) differ in
          let at : slice_get u.entries k ≡ slice_get t.entries k = ap (λ ns. slice_get ns k) placed ∙ set_other t.entries h k p differ in
          entry_there e es k differ ∙ agrees k ∙ entry_looked t k ∙ sym (entry_looked u k ∙ (λ i. found k (seen i) (at i)))
    ]

-- the frame that is taken is that of one of the handlers
pub table_within : (n : ℕ) (hs : List ℕ) (fs : List Frame) (ps : List ℕ) (made less : List Frame) (f : Frame) (t : Frames) → length fs ≡ length hs → Tabled n hs fs ps made t → made ≡ less ++ f ∷ [] → length less < length hs
table_within n hs fs ps made less f t each so cut =
    let longer : length made ≡ length less + 1 = ap length cut ∙ length-append less (f ∷ []) in
    let all : length made + length so.rest ≡ length fs = sym (length-append made so.rest) ∙ ap length so.whole in
    omega (arith, longer, all, each)

-- one handler more
pub table_more : (n : ℕ) (hs : List ℕ) (fs : List Frame) (ps : List ℕ) (made less : List Frame) (f : Frame) (h p : ℕ) (t u : Frames) → length fs ≡ length hs → length ps ≡ length hs → Tabled n hs fs ps made t
    → made ≡ less ++ f ∷ [] → h ≡ get_or hs (length less) 0 → p ≡ get_or ps (length less) 0 → h < n
    → u.frames ≡ slice_set t.frames h (Some f) → u.entries ≡ slice_set t.entries h p → Tabled n hs fs ps less u
table_more n hs fs ps made less f h p t u each places so cut read at below framed placed =
    let longer : length made ≡ length less + 1 = ap length cut ∙ length-append less (f ∷ []) in
    let all : length made + length so.rest ≡ length fs = sym (length-append made so.rest) ∙ ap length so.whole in
    let within : length less < length hs = omega (arith, longer, all, each) in
    let inside : length less < length ps = omega (arith, within, places) in
    let one : h < length t.frames = omega (arith, below, so.frames) in
    let two : h < length t.entries = omega (arith, below, so.entries) in
    let hs_cut : drop (length less) hs ≡ h ∷ drop (length made) hs = drop_next hs (length less) 0 within ∙ (λ i. sym read i ∷ drop (sym longer i) hs) in
    let ps_cut : drop (length less) ps ≡ p ∷ drop (length made) ps = drop_next ps (length less) 0 inside ∙ (λ i. sym at i ∷ drop (sym longer i) ps) in
    record {
      rest = f ∷ so.rest;
      whole = sym (append_assoc less (f ∷ []) so.rest) ∙ ap (λ xs. xs ++ so.rest) (sym cut) ∙ so.whole;
      frames = ap length framed ∙ length-set t.frames h (Some f) ∙ so.frames;
      entries = ap length placed ∙ length-set t.entries h p ∙ so.entries;
      agrees =
          let here : Agrees (entries_at (h ∷ drop (length made) hs) (f ∷ so.rest) (p ∷ drop (length made) ps)) u =
          put_agrees t u h p f (entries_at (drop (length made) hs) so.rest (drop (length made) ps)) framed placed one two so.agrees in
          subst (λ ks. Agrees (entries_at ks (f ∷ so.rest) (drop (length less) ps)) u) (sym hs_cut)
          (subst (λ qs. Agrees (entries_at (h ∷ drop (length made) hs) (f ∷ so.rest) qs) u) (sym ps_cut) here);
      has = λ j late early. elim (cases_lt (length less) j) [
        | inl more ↦ put_entry t u h (get_or hs j 0) p f framed placed one two (so.has j (omega (arith, more, longer)) early)
        | inr last ↦
            let same : length less ≡ j = omega (arith, late, last) in
            let number : h ≡ get_or hs j 0 = read ∙ ap (λ i. get_or hs i 0) same in
            subst (HasEntry u) number (record {
              frame = f;
              place = p;
              framed = ap (λ gs. slice_get gs h) framed ∙ set_same t.frames h (Some f) one;
              placed = ap (λ ns. slice_get ns h) placed ∙ set_same t.entries h p two;
            })
      ];
    }

get_default : {X : Type 0} (xs : List X) (k : ℕ) (a b : X) → k < length xs → get_or xs k a ≡ get_or xs k b
get_default [] k a b h = absurd (omega (arith, h))
get_default (x ∷ xs) zero a b h = refl
get_default (x ∷ xs) (suc k) a b h = get_default xs k a b (omega (arith, h))

pub table_agrees : (n : ℕ) (hs : List ℕ) (fs : List Frame) (ps : List ℕ) (t : Frames) → Tabled n hs fs ps [] t → Agrees (entries_at hs fs ps) t
table_agrees n hs fs ps t so = subst (λ gs. Agrees (entries_at hs gs ps) t) so.whole so.agrees

pub table_has : (n : ℕ) (hs : List ℕ) (fs : List Frame) (ps : List ℕ) (t : Frames) → Tabled n hs fs ps [] t → All (HasEntry t) hs
table_has n hs fs ps t so k d l = subst (HasEntry t) (get_default hs k 0 d l) (so.has k (omega arith) l)
