-- The delivery of a handler visits all that follows from what it emitted.
use Rattle.std.proofs.Common.{◌≡◌, ◌∙◌, ◌≢◌, ℕ, suc, ◌+◌, ◌<◌, ◌≤◌, ◌⊎◌, inl, inr, true, List, [], ◌∷◌, length, map, take, sum, Some, None, refl, sym, ap, subst, arith, slice_get, slice_index_or}
use Rattle.std.proofs.lemmas.Option.{slice_get_within}
use Rattle.tower_types.specs.Value.{Value, flat}
use Rattle.tower_syntax.specs.declared.arch.On.TheVariants as on
use Rattle.tower_syntax.specs.declared.arch.Listener.{Listener}
use Rattle.tower_syntax.specs.declared.arch.Listener.TheVariants as to
use Rattle.tower_syntax.specs.Arch.{Arch, Emitter}
use Rattle.tower_syntax.specs.Graph.{handler, output, hears, subs, leads, Reaches, goes}
use Rattle.tower_syntax.specs.WellNumbered.{AreListeners}
use Rattle.tower_syntax.specs.Weights.{message_words, emitter_words, emitter_weight}
use Rattle.tower_meaning.specs.System.{Item, follow_from}
use Rattle.tower_meaning.specs.Fits.{fits_item}
use Rattle.task_code.specs.declared.program.Task.{Task}
use Rattle.task_code.specs.declared.frame.Frame.{Frame}
use Rattle.task_code.specs.Program.{Program}
use Rattle.task_code.specs.Own.{Filled, Own}
use Rattle.task_code.specs.Holds.{HoldLists, buffers_at}
use Rattle.task_code.specs.Formed.{IsFormed}
use Rattle.task_code.specs.Piece.{end, Stands}
use Rattle.task_alone.specs.Visits.{Visits}
use Rattle.task_alone.specs.SettingOf.{setting_of, numbers_from}
use Rattle.task_alone.proofs.Visits.{weaker}
use Rattle.channel_graph.proofs.Members.{In, filter_has}
use Rattle.channel_graph.proofs.Linked.{Link, of_link}
use Rattle.emit_code.specs.Delivery.{Entry, delivery_code}
use Rattle.emit_code.specs.Entries.{Behind, next, later, NoneComesBack, frame_in, InFrames, Touched, InBuffers, TouchedBuffers, HasParts, buffer_for, IsFramed, Returned, Carries, Going}
use Rattle.emit_code.specs.Delivering.{OfEntry, delivery_end, DeliveryVisits}
use Rattle.emit_code.proofs.Going.{Ready}
use Rattle.emit_code.proofs.Emitted.{Feeds, AreFed, delivers}
use Rattle.emit_code.proofs.Listed.{same_on_channel, exists, all_in, get_in, first_held, not_held}

pub follows_on : (arch : Arch) (h k g : ℕ) → leads arch h k ≡ true → Behind arch k g → Behind arch h g
follows_on arch h k g led (next b l) = later k b (next k led) l
follows_on arch h k g led (later a b f l) = later a b (follows_on arch h k a led f) l

module _ (arch : Arch) (p : Program) (t : Task) (x : ℕ) (entries : List Entry) where
  pub wider : (Touch Touch' TouchB TouchB' : ℕ → Type 0) (m n cost k : ℕ) → n ≤ m → ((a : ℕ) → Touch a → Touch' a) → ((a : ℕ) → TouchB a → TouchB' a) → Carries arch p t x entries m Touch TouchB cost k → Carries arch p t x entries n Touch' TouchB' cost k
  wider Touch Touch' TouchB TouchB' m n cost k le more more_b c v fits u entered room =
      weaker (setting_of arch) p t x (λ o. o ≡ u) (λ o. o ≡ u) ((to.Handler k, v) ∷ []) cost cost (Returned t Touch TouchB u) (Returned t Touch' TouchB' u) (λ o e. e)
      (λ o b. record {
        back = b.back;
        stack = b.stack;
        free = b.free;
        formed = b.formed;
        changed = record {
          words = λ a not_may. b.changed.words a (λ f. not_may (more a f));
          buffers = λ a not_may. b.changed.buffers a (λ f. not_may (more_b a f));
        };
      })
      (omega arith) (c v fits u entered (omega (arith, le, room)))

  -- what a called handler may change belongs to those that follow its caller
  pub as_called : (h k a : ℕ) → Reaches arch x k → leads arch h k ≡ true → OfEntry arch x entries k a → InFrames arch x entries h a
  as_called h k a r led (inl f) = record { number = f.number; reached = f.reached; follows = follows_on arch h k f.number led f.follows; from = f.from; before = f.before }
  as_called h k a r led (inr own) = record { number = k; reached = r; follows = next k led; from = own.0; before = own.1 }

  pub buffers_called : (h k b : ℕ) → Reaches arch x k → leads arch h k ≡ true → TouchedBuffers arch x entries k b → InBuffers arch x entries h b
  buffers_called h k b r led (inl f) = record { number = f.number; reached = f.reached; follows = follows_on arch h k f.number led f.follows; from = f.from; before = f.before }
  buffers_called h k b r led (inr own) = record { number = k; reached = r; follows = next k led; from = own.0; before = own.1 }

module _ (arch : Arch) (p : Program) (t : Task) (x : ℕ) (entries : List Entry) (framed : IsFramed arch p t x entries) (listed : AreListeners arch) (acyclic : NoneComesBack arch x) (cost : ℕ → ℕ) where
  abbrev frames : ℕ → ℕ → Type 0
  frames h a = InFrames arch x entries h a

  abbrev buffers : ℕ → ℕ → Type 0
  buffers h b = InBuffers arch x entries h b

  abbrev touched : ℕ → ℕ → Type 0
  touched h a = Touched arch x entries h a

  -- the code of k carries out its item, for the handler h that called it
  abbrev carries_for : ℕ → ℕ → ℕ → Type 0
  carries_for n h k = Carries arch p t x entries n (frames h) (buffers h) (cost k) k

  not_same : (h k : ℕ) → Reaches arch x h → Behind arch h k → h ≢ k
  not_same h k r f e = acyclic h r (subst (Behind arch h) (sym e) f)

  -- what belongs to h belongs to no handler that follows it
  not_in_frames : (h a : ℕ) → Reaches arch x h → (frame_in entries h).param ≤ a → a < (frame_in entries h).end → frames h a → ⊥
  not_in_frames h a r from before f = disjoint (framed.apart h f.number r f.reached (not_same h f.number r f.follows))
    where
      disjoint : ((frame_in entries h).end ≤ (frame_in entries f.number).param) ⊎ ((frame_in entries f.number).end ≤ (frame_in entries h).param) → ⊥
      disjoint (inl l) = let low = f.from in omega (arith, l, low, before)
      disjoint (inr l) = let high = f.before in omega (arith, l, high, from)

  not_in_buffers : (h b : ℕ) → Reaches arch x h → (frame_in entries h).first_buffer ≤ b → b < (frame_in entries h).first_buffer + length (handler arch h).emitters → buffers h b → ⊥
  not_in_buffers h b r from before f = disjoint (framed.buffers_apart h f.number r f.reached (not_same h f.number r f.follows))
    where
      disjoint : ((frame_in entries h).first_buffer + length (handler arch h).emitters ≤ (frame_in entries f.number).first_buffer) ⊎ ((frame_in entries f.number).first_buffer + length (handler arch f.number).emitters ≤ (frame_in entries h).first_buffer) → ⊥
      disjoint (inl l) = let low = f.from in omega (arith, l, low, before)
      disjoint (inr l) = let high = f.before in omega (arith, l, high, from)

  -- a handler, where those that it calls carry out their items
  module _ (n h : ℕ) (r : Reaches arch x h) (callee : (k : ℕ) → Reaches arch x k → leads arch h k ≡ true → carries_for n h k) where
    abbrev frame : Frame
    frame = frame_in entries h

    abbrev i : ℕ
    i = frame.temps + 2

    counter_own : frame.param + message_words arch (handler arch h).on ≤ i
    counter_own = let m : frame.param + message_words arch (handler arch h).on ≤ frame.temps = (framed.parts h r).message in omega (arith, m)

    counter_from : frame.param ≤ i
    counter_from = let m : frame.param + message_words arch (handler arch h).on ≤ i = counter_own in omega (arith, m)

    ready : (k : ℕ) (e : Emitter) → slice_get (handler arch h).emitters k ≡ Some e → (l : Listener) → In l (subs arch (on.Channel e.channel)) → Ready arch p t x entries cost n (frames h) (buffers h) (touched h) i (slice_index_or frame.scratch k 0) (emitter_words arch e) l
    ready k e has (to.Output o) l =
        let m = filter_has (hears arch (on.Channel e.channel)) arch.listeners (to.Output o) l in
        let same : on.Channel (output arch o).channel ≡ on.Channel e.channel = same_on_channel (on.Channel (output arch o).channel) e.channel m.1 in
        let places = (framed.parts h r).scratch k e has in
        let low : frame.temps + 3 ≤ slice_index_or frame.scratch k 0 = places.0 in
        let high : slice_index_or frame.scratch k 0 + emitter_words arch e ≤ frame.end = places.1 in
        let room : frame.end ≤ t.room = framed.room h r in
        let from : frame.param + message_words arch (handler arch h).on ≤ i = counter_own in (
          framed.outputs o (exists arch (to.Output o) listed m.0) ∙ ap (message_words arch) same,
          record {
            may = λ c l' r'. inr (omega (arith, low, from, l'), omega (arith, high, r'));
            room = omega (arith, high, room);
            apart = inl (omega (arith, low));
          },
        )
    ready k e has (to.Handler g) l =
        let m = filter_has (hears arch (on.Channel e.channel)) arch.listeners (to.Handler g) l in
        let same : (handler arch g).on ≡ on.Channel e.channel = same_on_channel (handler arch g).on e.channel m.1 in
        let link : Link arch h g = record { emitter = e; has = get_in (handler arch h).emitters k e has; below = exists arch (to.Handler g) listed m.0; on = m.1 } in
        let led : leads arch h g ≡ true = of_link arch h g listed link in
        let reached : Reaches arch x g = goes h g r led in
        let first : Behind arch h g = next g led in
        let width : message_words arch (handler arch g).on ≡ emitter_words arch e = ap (message_words arch) same in
        let parts : HasParts arch g (frame_in entries g) = framed.parts g reached in
        let message : (frame_in entries g).param + message_words arch (handler arch g).on ≤ (frame_in entries g).temps = parts.message in
        let last : (frame_in entries g).temps + 2 < (frame_in entries g).end = parts.counter in
        let room : (frame_in entries g).end ≤ t.room = framed.room g reached in (
          callee g reached led,
          record {
            may = λ c l' r'. inl (record { number = g; reached = reached; follows = first; from = l'; before = omega (arith, message, last, width, r') });
            room = omega (arith, message, last, width, room);
            apart = beside g (framed.apart h g r reached (not_same h g r first)) message last width;
          },
        )
      where
        beside : (g : ℕ) → (frame.end ≤ (frame_in entries g).param) ⊎ ((frame_in entries g).end ≤ frame.param) → (frame_in entries g).param + message_words arch (handler arch g).on ≤ (frame_in entries g).temps → (frame_in entries g).temps + 2 < (frame_in entries g).end → message_words arch (handler arch g).on ≡ emitter_words arch e → (i < (frame_in entries g).param) ⊎ ((frame_in entries g).param + emitter_words arch e ≤ i)
        beside g (inl l) message last width = let c : i < frame.end = (framed.parts h r).counter in inl (omega (arith, l, c))
        beside g (inr l) message last width = let c : frame.param ≤ i = counter_from in inr (omega (arith, l, c, message, last, width))

    -- at the start of the delivery, with o as it is then
    module _ (o : Own) (formed : IsFormed t o) (calls : suc (length o.calls) ≤ n) (room : n ≤ 256) where
      feeds : (k : ℕ) (e : Emitter) (vs : List Value) (f : Filled) → slice_get (handler arch h).emitters k ≡ Some e → slice_get o.buffers (frame.first_buffer + k) ≡ Some f → f.count ≡ length vs → take f.count f.slots ≡ map flat vs → Feeds arch p t x entries cost n (frames h) (buffers h) (touched h) (buffers h) o frame k e vs
      feeds k e vs f at has count slots =
          let is : slice_get t.buffers (frame.first_buffer + k) ≡ Some (buffer_for arch e) = framed.tables h k e r at in
          let below : k < length (handler arch h).emitters = slice_get_within (handler arch h).emitters k e at in
          record {
            around = record {
              is = is;
              wide = refl;
              counter = not_in_frames h i r counter_from (framed.parts h r).counter;
              buffer = not_in_buffers h (frame.first_buffer + k) r (omega arith) (omega (arith, below));
              inside = λ c h. inl h;
              inside_buffers = λ c h. h;
              calls = calls;
              room = room;
            };
            buffered = record { filled = f; has = has; count = count; slots = slots };
            few = framed.few (frame.first_buffer + k) (buffer_for arch e) is;
            ready = ready k e at;
          }

      fed : (es : List Emitter) (lists : List (List Value)) (k first : ℕ) → first ≡ frame.first_buffer + k → ((j : ℕ) (e : Emitter) → slice_get es j ≡ Some e → slice_get (handler arch h).emitters (k + j) ≡ Some e) → HoldLists (buffers_at o (numbers_from first (length es))) lists → AreFed arch p t x entries cost n (frames h) (buffers h) (touched h) (buffers h) o frame k es lists
      fed [] [] k first is all held = tt
      fed [] (vs ∷ lists) k first is all held = absurd held
      fed (e ∷ es) [] k first is all held = absurd (not_held _ _ held)
      fed (e ∷ es) (vs ∷ lists) k first is all held =
          let b = first_held (slice_get o.buffers first) (map (slice_get o.buffers) (numbers_from (suc first) (length es))) vs lists held in
          let z : k + 0 ≡ k = omega arith in
          let later : (j : ℕ) → k + suc j ≡ suc k + j = λ j. omega arith in (
            feeds k e vs b.0 (subst (λ a. slice_get (handler arch h).emitters a ≡ Some e) z (all 0 e refl)) (ap (slice_get o.buffers) (sym is) ∙ b.1) b.2 b.3,
            fed es lists (suc k) (suc first) (omega (arith, is)) (λ j d at. subst (λ a. slice_get (handler arch h).emitters a ≡ Some d) (later j) (all (suc j) d at)) b.4,
          )

      -- from where its code stands to behind it
      pub delivery_visits : (lists : List (List Value)) (a : ℕ) → HoldLists (buffers_at o (numbers_from frame.first_buffer (length (handler arch h).emitters))) lists → ((q : Item) → In q (follow_from arch (handler arch h).emitters lists) → fits_item arch q ≡ true) → Stands t.code a (delivery_code arch entries frame a 0 (handler arch h).emitters)
          → Visits (setting_of arch) p t x (Going t (touched h) (buffers h) o a) (follow_from arch (handler arch h).emitters lists) (sum (map (emitter_weight arch cost) (handler arch h).emitters)) (Going t (touched h) (buffers h) o (end a (delivery_code arch entries frame a 0 (handler arch h).emitters)))
      delivery_visits lists a held fits stands =
          let buffer : frame.first_buffer ≡ frame.first_buffer + 0 = omega arith in
          let counter : i < frame.end = (framed.parts h r).counter in
          let enough : frame.end ≤ t.room = framed.room h r in
          delivers arch p t x entries cost n (frames h) (buffers h) (touched h) (buffers h) o frame formed (inr (counter_own, counter)) (omega (arith, counter, enough))
          (handler arch h).emitters lists 0 a
          (fed (handler arch h).emitters lists 0 frame.first_buffer buffer (λ j e at. subst (λ a. slice_get (handler arch h).emitters a ≡ Some e) (nothing_less j) at) held)
          fits stands
        where
          nothing_less : (a : ℕ) → a ≡ 0 + a
          nothing_less a = omega arith

pub begins : (t : Task) (May MayB : ℕ → Type 0) (u : Own) → u.stack ≡ [] → u.held ≡ None → IsFormed t u → Going t May MayB u u.place u
begins t May MayB u stack free formed = record {
  is_at = refl;
  calls = refl;
  stack = stack;
  free = free;
  formed = formed;
  changed = record { words = λ a h. refl; buffers = λ b h. refl };
}

pub visits : DeliveryVisits
visits arch p t x entries h cost lists u listed r acyclic framed stands callee b fit =
    let few : length u.calls + 2 ≤ 256 = b.calls in
    weaker (setting_of arch) p t x (Going t (Touched arch x entries h) (InBuffers arch x entries h) u u.place) (λ o. o ≡ u) (follow_from arch (handler arch h).emitters lists)
    (sum (map (emitter_weight arch cost) (handler arch h).emitters)) (sum (map (emitter_weight arch cost) (handler arch h).emitters))
    (Going t (Touched arch x entries h) (InBuffers arch x entries h) u (delivery_end arch entries h u.place)) (Going t (Touched arch x entries h) (InBuffers arch x entries h) u (delivery_end arch entries h u.place))
    (λ o e. subst (Going t (Touched arch x entries h) (InBuffers arch x entries h) u u.place) (sym e) (begins t (Touched arch x entries h) (InBuffers arch x entries h) u b.stack b.free b.formed)) (λ o g. g) (omega arith)
    (delivery_visits arch p t x entries framed listed acyclic cost (length u.calls + 2) h r
    (λ k reached led. wider arch p t x entries (OfEntry arch x entries k) (InFrames arch x entries h) (TouchedBuffers arch x entries k) (InBuffers arch x entries h) (length u.calls + 2) (length u.calls + 2) (cost k) k (omega arith)
    (λ a f. as_called arch p t x entries h k a reached led f) (λ a f. buffers_called arch p t x entries h k a reached led f) (callee k led))
    u b.formed (omega arith) (omega (arith, few)) lists u.place b.filled (λ q q_in. all_in (λ z. fits_item arch z ≡ true) (follow_from arch (handler arch h).emitters lists) q fit q_in) stands)
