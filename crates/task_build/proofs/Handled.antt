-- Each entry carries out its item.
use Rattle.std.proofs.Common.{◌≡◌, ◌∙◌, ℕ, zero, suc, ◌+◌, ◌<◌, ◌≤◌, inl, inr, true, List, [], ◌∷◌, length, map, drop, sum, Some, None, refl, sym, ap, subst, arith, slice_get, slice_index_or}
use Rattle.std.proofs.lemmas.List.{append-nil}
use Rattle.tower_types.specs.Value.{Value}
use Rattle.tower_syntax.specs.declared.arch.Listener.TheVariants as to
use Rattle.tower_syntax.specs.Arch.{Arch}
use Rattle.tower_syntax.specs.Graph.{handler, leads, Reaches}
use Rattle.tower_syntax.specs.WellNumbered.{AreListeners}
use Rattle.tower_syntax.specs.Weights.{emitter_weight, section, handler_memory, memory}
use Rattle.tower_meaning.specs.System.{Item}
use Rattle.tower_meaning.specs.Fits.{fits_item, KeepsTypes}
use Rattle.task_code.specs.declared.program.Task.{Task}
use Rattle.task_code.specs.declared.program.Instr.TheVariants.{Ret}
use Rattle.task_code.specs.declared.frame.Frame.{Frame}
use Rattle.task_code.specs.Program.{Program}
use Rattle.task_code.specs.Own.{Own}
use Rattle.task_code.specs.Does.{on}
use Rattle.task_code.specs.Holds.{HoldLists, buffers_at}
use Rattle.task_code.specs.Leads.{Leads}
use Rattle.task_code.specs.Piece.{end}
use Rattle.task_code.proofs.Leads as steps
use Rattle.task_code.proofs.Formed.{formed_like}
use Rattle.task_alone.specs.Visits.{Visits, Section}
use Rattle.task_alone.specs.SettingOf.{setting_of, numbers_from}
use Rattle.task_alone.proofs.Visits.{weaker, leading, then_on, handling}
use Rattle.channel_graph.specs.Chain.{LeadsAlong}
use Rattle.channel_graph.specs.Laws.{IsDelivery}
use Rattle.channel_graph.proofs.Members.{In}
use Rattle.arch_checks.specs.declared.fault.What.TheVariants as what
use Rattle.arch_checks.specs.Laws.{IsSafe}
use Rattle.stmt_code.specs.Section.{section_code}
use Rattle.stmt_code.specs.Effects.{HasFrame, BeforeLock, DoesEffect}
use Rattle.stmt_code.proofs.Sections.{do_effects}
use Rattle.emit_code.specs.Delivery.{Entry, delivery_code}
use Rattle.emit_code.specs.Entries.{NoneComesBack, frame_in, place_in, InFrames, Touched, InBuffers, TouchedBuffers, Entered, Returned, Carries, Going}
use Rattle.emit_code.specs.Delivering.{OfEntry}
use Rattle.emit_code.proofs.Delivered.{wider, as_called, buffers_called, begins, delivery_visits}
use Rattle.emit_code.proofs.Listed.{all_in}
use Rattle.task_build.specs.TaskEntries.{Planned}
use Rattle.task_build.proofs.Planned.{Sent, SectionRuns}

-- what the law of sections says of a task's entries
pub sections_run : (arch : Arch) (p : Program) (t : Task) (x : ℕ) (entries : List Entry) → Planned arch p t x entries → IsSafe arch → (h : ℕ) → Reaches arch x h → handler_memory arch (handler arch h) ≤ 1048576 → SectionRuns arch p t x entries h
sections_run arch p t x entries planned safe h r limit v fits u entered =
    let a : ℕ = place_in entries h in
    let f : Frame = frame_in entries h in
    let has_frame : HasFrame arch t h f = record { laid = planned.frame h r; room = planned.framed.room h r; has_buffers = planned.has_buffers h r; tables = λ k e has. planned.framed.tables h k e r has } in
    let law = do_effects arch p t h f a safe.typed safe.shallow safe.bounded (safe.within what.Memory (memory arch) refl) limit has_frame (planned.stands h r).0 in
    let before : BeforeLock t f a v u = record { is_at = entered.is_at; stack = entered.stack; free = entered.free; formed = entered.formed; message_there = entered.message } in (
      law.0,
      law.1,
      record {
        lock = ap (slice_get t.code) entered.is_at ∙ (planned.stands h r).0.0.0;
        free = entered.free;
        body = λ w w_fits.
            let d : DoesEffect arch p t h f a law.0 v w u = law.2 v w fits w_fits u before in
            let place : end a (section_code arch (handler arch h) f a) ≡ d.own.place + 1 = d.last in
            let lists = subst (λ b. HoldLists (buffers_at d.own (numbers_from b (length (handler arch h).emitters))) ((setting_of arch).system.effect h w v).lists) (planned.first h r) d.lists in
            record {
              own = d.own;
              leads = d.leads;
              unlock = d.unlock;
              words = d.held;
              lists = lists;
              after = record {
                is_at = omega (arith, place);
                calls = d.calls;
                stack = d.stack;
                free = refl;
                formed = formed_like t d.own (on (record d.own { held = None })) d.formed refl refl;
                words = d.changed.words;
                buffers = d.changed.buffers;
                lists = lists;
              };
            };
      },
    )

module _ (arch : Arch) (p : Program) (t : Task) (x : ℕ) (entries : List Entry) (planned : Planned arch p t x entries) (listed : AreListeners arch) (acyclic : NoneComesBack arch x) (keeps : KeepsTypes arch) (cost : ℕ → ℕ) (delivery : IsDelivery arch x cost) (sections : (h : ℕ) → Reaches arch x h → SectionRuns arch p t x entries h) where
  abbrev frames : ℕ → ℕ → Type 0
  frames h a = InFrames arch x entries h a

  abbrev buffers : ℕ → ℕ → Type 0
  buffers h b = InBuffers arch x entries h b

  abbrev touched : ℕ → ℕ → Type 0
  touched h a = Touched arch x entries h a

  abbrev touched_buffers : ℕ → ℕ → Type 0
  touched_buffers h b = TouchedBuffers arch x entries h b

  -- the code of k carries out its item, where n more calls have room
  abbrev carries_at : ℕ → ℕ → Type 0
  carries_at n k = (calls : ℕ) → calls + n ≤ 256 → Carries arch p t x entries calls (touched k) (touched_buffers k) (cost k) k

  -- a handler may change no more than its whole frame
  in_entry : (k a : ℕ) → touched k a → OfEntry arch x entries k a
  in_entry k a (inl f) = inl f
  in_entry k a (inr own) = let low = own.0 in inr (omega (arith, low), own.1)

  -- a handler, where those that it calls carry out their items with room for n more calls
  module _ (n h : ℕ) (r : Reaches arch x h) (callee : (k : ℕ) → Reaches arch x k → leads arch h k ≡ true → carries_at n k) where
    abbrev frame : Frame
    frame = frame_in entries h

    abbrev behind : ℕ
    behind = end (place_in entries h) (section_code arch (handler arch h) frame (place_in entries h))

    abbrev last : ℕ
    last = end behind (delivery_code arch entries frame behind 0 (handler arch h).emitters)

    abbrev weight : ℕ
    weight = sum (map (emitter_weight arch cost) (handler arch h).emitters)

    -- behind the UNLOCK of h, with o as it is then
    module _ (v w : Value) (u : Own) (entered : Entered t entries h v u) (calls : ℕ) (few : length u.calls ≤ calls) (room : calls + suc n ≤ 256) (o : Own) (sent : Sent arch t x entries h v w u o) where
      abbrev items : List Item
      items = (setting_of arch).system.follow h ((setting_of arch).system.effect h w v).lists

      abbrev going : ℕ → Own → Type 0
      going place o' = Going t (touched h) (buffers h) o place o'

      -- RET goes back to the caller of h
      goes_back : slice_get t.code last ≡ Some Ret → (o' : Own) → going last o' → (o'' : Own) × Leads p t 1 o' o'' × Returned t (touched h) (touched_buffers h) u o''
      goes_back this o' c =
          let back : Own = record o' { calls = entered.earlier; place = entered.caller } in (
            back,
            steps.once p t o' back (steps.ret p t o' o'.place o'.stack entered.caller entered.earlier (ap (slice_get t.code) c.is_at ∙ this) (c.calls ∙ sent.calls ∙ entered.calls)),
            record {
              back = λ to rest e.
                  let both : entered.caller ∷ entered.earlier ≡ to ∷ rest = sym entered.calls ∙ e in
                  (ap (λ l. slice_index_or l 0 0) both, ap (drop 1) both);
              stack = c.stack;
              free = c.free;
              formed = formed_like t o' back c.formed refl refl;
              changed = record {
                words = λ a not_may. c.changed.words a not_may ∙ sent.words a (λ own. not_may (inr own));
                buffers = λ b not_may.
                    c.changed.buffers b (λ q. not_may (inl q))
                    ∙ sent.buffers b (λ own. not_may (inr own));
              };
            },
          )

      called : (k : ℕ) → Reaches arch x k → leads arch h k ≡ true → Carries arch p t x entries (suc calls) (frames h) (buffers h) (cost k) k
      called k rk led =
          wider arch p t x entries (touched k) (frames h) (touched_buffers k) (buffers h) (suc calls) (suc calls) (cost k) k (omega arith)
          (λ a f. as_called arch p t x entries h k a rk led (in_entry k a f)) (λ b f. buffers_called arch p t x entries h k b rk led f) (callee k rk led (suc calls) (omega (arith, room)))

      follow_visits : ((q : Item) → In q items → fits_item arch q ≡ true) → Visits (setting_of arch) p t x (λ o'. o' ≡ o) items (weight + 1) (Returned t (touched h) (touched_buffers h) u)
      follow_visits fits =
          let code = planned.stands h r in
          let same : length o.calls ≡ length u.calls = ap length sent.calls in
          let held = subst (λ b. HoldLists (buffers_at o (numbers_from b (length (handler arch h).emitters))) ((setting_of arch).system.effect h w v).lists) (sym (planned.first h r)) sent.lists in
          weaker (setting_of arch) p t x (going behind) (λ o'. o' ≡ o) items (weight + 1) (weight + 1) (Returned t (touched h) (touched_buffers h) u) (Returned t (touched h) (touched_buffers h) u)
          (λ o' e. subst (going behind) (sym e) (subst (λ b. going b o) sent.is_at (begins t (touched h) (buffers h) o sent.stack sent.free sent.formed))) (λ o' c. c) (omega arith)
          (subst (λ q. Visits (setting_of arch) p t x (going behind) q (weight + 1) (Returned t (touched h) (touched_buffers h) u)) (append-nil items)
          (then_on (setting_of arch) p t x (going behind) items weight (going last) [] 1 (Returned t (touched h) (touched_buffers h) u)
          (delivery_visits arch p t x entries planned.framed listed acyclic cost (suc calls) h r called o sent.formed (omega (arith, same, few)) (omega (arith, room)) ((setting_of arch).system.effect h w v).lists behind held fits code.1.0)
          (leading (setting_of arch) p t x (going last) 1 (Returned t (touched h) (touched_buffers h) u) (λ o' c. goes_back code.1.1 o' c))))

    handler_visits : carries_at (suc n) h
    handler_visits calls room v fits u entered few =
        let s = setting_of arch in
        let sec = sections h r v fits u entered in
        let total : cost h ≡ section arch (handler arch h) + weight = delivery h r in
        let enough : sec.0 + 3 ≤ section arch (handler arch h) = sec.1 in
        weaker s p t x (λ o. o ≡ u) (λ o. o ≡ u) ((to.Handler h, v) ∷ []) (2 + sec.0 + (weight + 1)) (cost h) (Returned t (touched h) (touched_buffers h) u) (Returned t (touched h) (touched_buffers h) u) (λ o c. c) (λ o c. c) (omega (arith, total, enough))
        (handling s p t x (λ o. o ≡ u) h v sec.0 (λ w. Sent arch t x entries h v w u) (weight + 1) (Returned t (touched h) (touched_buffers h) u)
        (λ o e. subst (λ z. Section s p t x h v sec.0 z (λ w. Sent arch t x entries h v w u)) (sym e) sec.2)
        (λ w w_fits k o rest handed since sent time go.
        follow_visits v w u entered calls few room o sent (λ q q_in. all_in (λ z. fits_item arch z ≡ true) _ q (keeps.sent_fit h w v w_fits fits) q_in) k o rest handed since refl time go))

  -- ---- each entry, by the walks from it

  -- no walk from h has more than n handlers
  abbrev Short : ℕ → ℕ → Type 0
  Short n h = (ks : List ℕ) → LeadsAlong arch h ks → length ks < n

  -- each entry carries out its item
  pub entry_visits : (n h : ℕ) → Reaches arch x h → Short n h → carries_at n h
  entry_visits zero h r short = absurd (nothing (short [] tt))
    where
      nothing : 0 < 0 → ⊥
      nothing lt = omega arith
  entry_visits (suc n) h r short =
      handler_visits n h r (λ k rk led. entry_visits n k rk (λ ks along. let lt : suc (length ks) < suc n = short (k ∷ ks) (led, along) in omega (arith, lt)))
