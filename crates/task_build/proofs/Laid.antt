-- Where the frames and the buffers of each entry lie.
use Rattle.std.proofs.Common.{◌≡◌, ◌∙◌, ◌≢◌, ℕ, ◌+◌, ◌≤◌, ◌⊎◌, inl, inr, ◌==◌, List, [], ◌∷◌, ◌++◌, length, Some, sym, ap, subst, arith, slice_get}
use Rattle.std.proofs.lemmas.Bool.{cases_eq, eq-eqb, ne_eqb}
use Rattle.std.proofs.lemmas.List.{length-map, length-append}
use Rattle.tower_syntax.specs.Arch.{Arch, Emitter}
use Rattle.tower_syntax.specs.Graph.{handler}
use Rattle.tower_syntax.specs.Weights.{emitter_words}
use Rattle.task_code.specs.declared.program.Buffer.{Buffer}
use Rattle.task_code.specs.Piece.{end}
use Rattle.task_code.specs.declared.frame.Frame.{Frame}
use Rattle.stmt_code.specs.FrameOf.{frame_of}
use Rattle.task_build.specs.CodeOf.{frames_from, end_of, handler_code, entries_from, buffers_of, all_buffers}
use Rattle.emit_code.specs.Delivery.{Entry}
use Rattle.task_alone.specs.SettingOf.{first_buffer}
use Rattle.channel_graph.proofs.Members.{In}
use Rattle.emit_code.specs.Entries.{frame_in}
use Rattle.emit_code.proofs.Listed.{get_mapped}
use Rattle.task_build.proofs.Placed.{pick_first, pick_second, get_before, get_behind, entry_here, entry_there}

elsewhere : (h k : ℕ) (hs : List ℕ) → In k (h ∷ hs) → h ≢ k → In k hs
elsewhere h k hs (inl e) differ = absurd (differ (sym e))
elsewhere h k hs (inr m) differ = m

pub grows : (arch : Arch) (hs : List ℕ) (base buffer : ℕ) → base ≤ end_of base (frames_from arch base buffer hs)
grows arch [] base buffer = omega arith
grows arch (h ∷ hs) base buffer =
    let f : Frame = frame_of arch h base buffer in
    let rest : f.end ≤ end_of f.end (frames_from arch f.end (buffer + length (handler arch h).emitters) hs) = grows arch hs f.end (buffer + length (handler arch h).emitters) in
    omega (arith, rest)

module _ (arch : Arch) (known : List Entry) where
  abbrev laid_out : ℕ → ℕ → ℕ → List ℕ → List Entry
  laid_out base buffer from hs = entries_from arch known from hs (frames_from arch base buffer hs)

  abbrev frame_at : ℕ → ℕ → ℕ → List ℕ → ℕ → Frame
  frame_at base buffer from hs k = frame_in (laid_out base buffer from hs) k

  abbrev behind : ℕ → ℕ → ℕ → ℕ → ℕ
  behind base buffer from h = end from (handler_code arch known h (frame_of arch h base buffer) from)

  pub record Lies (base buffer last : ℕ) (hs : List ℕ) (h : ℕ) (f : Frame) : Type 0 where
    pub low : base ≤ f.param
    pub high : f.end ≤ last
    pub is : f ≡ frame_of arch h f.param f.first_buffer
    pub place : f.first_buffer ≡ buffer + first_buffer arch hs h

  frame_here : (base buffer from h k : ℕ) (hs : List ℕ) → h ≡ k → frame_at base buffer from (h ∷ hs) k ≡ frame_of arch h base buffer
  frame_here base buffer from h k hs e =
      let f : Frame = frame_of arch h base buffer in
      ap (λ z. z.frame) (entry_here (record { number = h; frame = f; place = from }) (laid_out f.end (buffer + length (handler arch h).emitters) (behind base buffer from h) hs) k e)

  frame_there : (base buffer from h k : ℕ) (hs : List ℕ) → h ≢ k → frame_at base buffer from (h ∷ hs) k ≡ frame_at (frame_of arch h base buffer).end (buffer + length (handler arch h).emitters) (behind base buffer from h) hs k
  frame_there base buffer from h k hs e =
      let f : Frame = frame_of arch h base buffer in
      ap (λ z. z.frame) (entry_there (record { number = h; frame = f; place = from }) (laid_out f.end (buffer + length (handler arch h).emitters) (behind base buffer from h) hs) k e)

  first_here : (h k : ℕ) (hs : List ℕ) → h ≡ k → first_buffer arch (h ∷ hs) k ≡ 0
  first_here h k hs e = pick_first (h == k) 0 (length (handler arch h).emitters + first_buffer arch hs k) (eq-eqb h k e)

  first_there : (h k : ℕ) (hs : List ℕ) → h ≢ k → first_buffer arch (h ∷ hs) k ≡ length (handler arch h).emitters + first_buffer arch hs k
  first_there h k hs e = pick_second (h == k) 0 (length (handler arch h).emitters + first_buffer arch hs k) (ne_eqb h k e)

  pub lies : (hs : List ℕ) (base buffer from k : ℕ) → In k hs → Lies base buffer (end_of base (frames_from arch base buffer hs)) hs k (frame_at base buffer from hs k)
  lies [] base buffer from k k_in = absurd k_in
  lies (h ∷ hs) base buffer from k k_in =
      let f : Frame = frame_of arch h base buffer in
      let buffer' : ℕ = buffer + length (handler arch h).emitters in
      let last : ℕ = end_of f.end (frames_from arch f.end buffer' hs) in
      elim (cases_eq h k) [
        | inl same ↦
            subst (Lies base buffer last (h ∷ hs) k) (sym (frame_here base buffer from h k hs same))
            (let first : first_buffer arch (h ∷ hs) k ≡ 0 = first_here h k hs same in
            record { low = omega arith; high = grows arch hs f.end buffer'; is = ap (λ g. frame_of arch g base buffer) same; place = omega (arith, first) })
        | inr differ ↦
            subst (Lies base buffer last (h ∷ hs) k) (sym (frame_there base buffer from h k hs differ))
            (let r = lies hs f.end buffer' (behind base buffer from h) k (elsewhere h k hs k_in differ) in
            let low : f.end ≤ (frame_at f.end buffer' (behind base buffer from h) hs k).param = r.low in
            let place : (frame_at f.end buffer' (behind base buffer from h) hs k).first_buffer ≡ buffer' + first_buffer arch hs k = r.place in
            let first : first_buffer arch (h ∷ hs) k ≡ length (handler arch h).emitters + first_buffer arch hs k = first_there h k hs differ in
            record { low = omega (arith, low); high = r.high; is = r.is; place = omega (arith, place, first) })
      ]

  -- the frames, and the buffers, of one come before those of the other
  abbrev pub Before : ℕ → ℕ → Frame → Frame → Type 0
  Before h k f g = (f.end ≤ g.param) × (f.first_buffer + length (handler arch h).emitters ≤ g.first_buffer)

  abbrev pub Apart : ℕ → ℕ → Frame → Frame → Type 0
  Apart h k f g = Before h k f g ⊎ Before k h g f

  pub apart : (hs : List ℕ) (base buffer from h k : ℕ) → In h hs → In k hs → h ≢ k → Apart h k (frame_at base buffer from hs h) (frame_at base buffer from hs k)
  apart [] base buffer from h k h_in k_in ne = absurd h_in
  apart (j ∷ hs) base buffer from h k h_in k_in ne =
      let f : Frame = frame_of arch j base buffer in
      let buffer' : ℕ = buffer + length (handler arch j).emitters in
      let from' : ℕ = behind base buffer from j in
      elim (cases_eq j h) [
        | inl is_h ↦
            let not_k : j ≢ k = λ e. ne (sym is_h ∙ e) in
            let r = lies hs f.end buffer' from' k (elsewhere j k hs k_in not_k) in
            subst (λ g. Apart h k g (frame_at base buffer from (j ∷ hs) k)) (sym (frame_here base buffer from j h hs is_h))
            (subst (λ g. Apart h k f g) (sym (frame_there base buffer from j k hs not_k)) (inl (r.low, first_low j h k is_h buffer hs (frame_at f.end buffer' from' hs k).first_buffer r.place)))
        | inr not_h ↦ elim (cases_eq j k) [
          | inl is_k ↦
              let r = lies hs f.end buffer' from' h (elsewhere j h hs h_in not_h) in
              subst (λ g. Apart h k (frame_at base buffer from (j ∷ hs) h) g) (sym (frame_here base buffer from j k hs is_k))
              (subst (λ g. Apart h k g f) (sym (frame_there base buffer from j h hs not_h)) (inr (r.low, first_low j k h is_k buffer hs (frame_at f.end buffer' from' hs h).first_buffer r.place)))
          | inr not_k ↦
              subst (λ g. Apart h k g (frame_at base buffer from (j ∷ hs) k)) (sym (frame_there base buffer from j h hs not_h))
              (subst (λ g. Apart h k (frame_at f.end buffer' from' hs h) g) (sym (frame_there base buffer from j k hs not_k)) (apart hs f.end buffer' from' h k (elsewhere j h hs h_in not_h) (elsewhere j k hs k_in not_k) ne))
        ]
      ]
    where
      first_low : (j h k : ℕ) → j ≡ h → (buffer : ℕ) (hs : List ℕ) (first : ℕ) → first ≡ buffer + length (handler arch j).emitters + first_buffer arch hs k → buffer + length (handler arch h).emitters ≤ first
      first_low j h k e buffer hs first is = let same : length (handler arch j).emitters ≡ length (handler arch h).emitters = ap (λ g. length (handler arch g).emitters) e in omega (arith, same, is)

pub table_at : (arch : Arch) (hs : List ℕ) (h k : ℕ) (e : Emitter) → In h hs → slice_get (handler arch h).emitters k ≡ Some e → slice_get (all_buffers arch hs) (first_buffer arch hs h + k) ≡ Some (record { width = emitter_words arch e; bound = e.bound })
table_at arch [] h k e h_in has = absurd h_in
table_at arch (j ∷ hs) h k e h_in has =
    let entry : Emitter → Buffer = λ e. record { width = emitter_words arch e; bound = e.bound } in
    elim (cases_eq j h) [
      | inl same ↦
          let first : first_buffer arch (j ∷ hs) h ≡ 0 = pick_first (j == h) 0 (length (handler arch j).emitters + first_buffer arch hs h) (eq-eqb j h same) in
          let there : slice_get (buffers_of arch (handler arch j).emitters) k ≡ Some (entry e) = get_mapped entry (handler arch j).emitters k e (subst (λ g. slice_get (handler arch g).emitters k ≡ Some e) (sym same) has) in
          subst (λ a. slice_get (buffers_of arch (handler arch j).emitters ++ all_buffers arch hs) a ≡ Some (entry e)) (at_first k (first_buffer arch (j ∷ hs) h) first) (get_before (buffers_of arch (handler arch j).emitters) (all_buffers arch hs) k (entry e) there)
      | inr differ ↦
          let first : first_buffer arch (j ∷ hs) h ≡ length (handler arch j).emitters + first_buffer arch hs h = pick_second (j == h) 0 (length (handler arch j).emitters + first_buffer arch hs h) (ne_eqb j h differ) in
          let many : length (buffers_of arch (handler arch j).emitters) ≡ length (handler arch j).emitters = length-map (handler arch j).emitters entry in
          subst (λ a. slice_get (buffers_of arch (handler arch j).emitters ++ all_buffers arch hs) a ≡ Some (entry e)) (at_later k (length (handler arch j).emitters) (first_buffer arch hs h) (length (buffers_of arch (handler arch j).emitters)) (first_buffer arch (j ∷ hs) h) many first)
          (get_behind (buffers_of arch (handler arch j).emitters) (all_buffers arch hs) (first_buffer arch hs h + k) ∙ table_at arch hs h k e (elsewhere j h hs h_in differ) has)
    ]
  where
    at_first : (k a : ℕ) → a ≡ 0 → k ≡ a + k
    at_first k a e = omega (arith, e)

    at_later : (k n a l b : ℕ) → l ≡ n → b ≡ n + a → l + (a + k) ≡ b + k
    at_later k n a l b e g = omega (arith, e, g)

pub table_long : (arch : Arch) (hs : List ℕ) (h : ℕ) → In h hs → first_buffer arch hs h + length (handler arch h).emitters ≤ length (all_buffers arch hs)
table_long arch [] h h_in = absurd h_in
table_long arch (j ∷ hs) h h_in =
    let entry : Emitter → Buffer = λ e. record { width = emitter_words arch e; bound = e.bound } in
    let many : length (buffers_of arch (handler arch j).emitters) ≡ length (handler arch j).emitters = length-map (handler arch j).emitters entry in
    let all : length (buffers_of arch (handler arch j).emitters ++ all_buffers arch hs) ≡ length (buffers_of arch (handler arch j).emitters) + length (all_buffers arch hs) = length-append (buffers_of arch (handler arch j).emitters) (all_buffers arch hs) in
    elim (cases_eq j h) [
      | inl same ↦
          let first : first_buffer arch (j ∷ hs) h ≡ 0 = pick_first (j == h) 0 (length (handler arch j).emitters + first_buffer arch hs h) (eq-eqb j h same) in
          let size : length (handler arch j).emitters ≡ length (handler arch h).emitters = ap (λ g. length (handler arch g).emitters) same in
          omega (arith, first, size, many, all)
      | inr differ ↦
          let first : first_buffer arch (j ∷ hs) h ≡ length (handler arch j).emitters + first_buffer arch hs h = pick_second (j == h) 0 (length (handler arch j).emitters + first_buffer arch hs h) (ne_eqb j h differ) in
          let rest : first_buffer arch hs h + length (handler arch h).emitters ≤ length (all_buffers arch hs) = table_long arch hs h (elsewhere j h hs h_in differ) in
          omega (arith, first, rest, many, all)
    ]
