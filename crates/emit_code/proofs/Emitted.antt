-- All that a handler has emitted goes to the subscribers of its emitters.
use Rattle.std.proofs.Common.{◌≡◌, ℕ, suc, ◌+◌, ◌^◌, ◌<◌, true, List, [], ◌∷◌, ◌++◌, map, sum, flat_map, sym, subst, slice_index_or}
use Rattle.std.proofs.lemmas.List.Sums.{sum_by-cons}
use Rattle.tower_types.specs.Value.{Value}
use Rattle.tower_syntax.specs.declared.arch.On.TheVariants as on
use Rattle.tower_syntax.specs.declared.arch.Listener.{Listener}
use Rattle.tower_syntax.specs.Arch.{Arch, Emitter}
use Rattle.tower_syntax.specs.Graph.{subs}
use Rattle.tower_syntax.specs.Weights.{emitter_words, emitter_weight}
use Rattle.tower_meaning.specs.System.{Item, follow_from}
use Rattle.tower_meaning.specs.Fits.{fits_item}
use Rattle.task_code.specs.declared.program.Task.{Task}
use Rattle.task_code.specs.Program.{Program}
use Rattle.task_code.specs.Own.{Filled, Own}
use Rattle.task_code.proofs.Leads as leads
use Rattle.task_code.specs.Piece.{Piece, end, Stands}
use Rattle.task_code.specs.declared.frame.Frame.{Frame}
use Rattle.emit_code.specs.Delivery.{Entry, emitter_code, delivery_code}
use Rattle.task_alone.specs.Visits.{Visits}
use Rattle.task_alone.specs.SettingOf.{setting_of}
use Rattle.task_alone.proofs.Visits.{leading, then_on}
use Rattle.channel_graph.proofs.Members.{In}
use Rattle.task_code.specs.Formed.{IsFormed}
use Rattle.emit_code.specs.Entries.{Going, buffer_for}
use Rattle.emit_code.proofs.Going.{Buffered, Ready, Around}
use Rattle.emit_code.proofs.Listed.{in_left, in_right}
use Rattle.emit_code.proofs.Looped.{loops}

module _ (arch : Arch) (p : Program) (t : Task) (x : ℕ) (entries : List Entry) (cost : ℕ → ℕ) (n : ℕ) (Touch TouchB May MayB : ℕ → Type 0) (u : Own) (frame : Frame) where
  abbrev going : ℕ → Own → Type 0
  going place o = Going t May MayB u place o

  -- buffer k holds the messages vs of the emitter e, and each of its subscribers is ready for them
  pub record Feeds (k : ℕ) (e : Emitter) (vs : List Value) : Type 0 where
    pub around : Around t n Touch TouchB May MayB u (frame.temps + 2) (frame.first_buffer + k) (buffer_for arch e) (emitter_words arch e)
    pub buffered : Buffered u (frame.first_buffer + k) vs
    pub few : e.bound + 1 < 2 ^ 64
    pub ready : (l : Listener) → In l (subs arch (on.Channel e.channel)) → Ready arch p t x entries cost n Touch TouchB May (frame.temps + 2) (slice_index_or frame.scratch k 0) (emitter_words arch e) l

  abbrev pub AreFed : ℕ → List Emitter → List (List Value) → Type 0
  AreFed k [] [] = Unit {0}
  AreFed k (e ∷ es) (vs ∷ lists) = Feeds k e vs × AreFed (suc k) es lists
  AreFed k _ _ = ⊥

  module _ (formed : IsFormed t u) (may : May (frame.temps + 2)) (room : frame.temps + 2 < t.room) where
    emitter_visits : (k : ℕ) (e : Emitter) (vs : List Value) → Feeds k e vs → ((q : Item) → In q (flat_map (λ v. map (λ l. (l, v)) (subs arch (on.Channel e.channel))) vs) → fits_item arch q ≡ true) → (from : ℕ)
        → Stands t.code from (emitter_code entries from (frame.temps + 2) (frame.first_buffer + k) (slice_index_or frame.scratch k 0) (emitter_words arch e) (subs arch (on.Channel e.channel)))
        → Visits (setting_of arch) p t x (going from) (flat_map (λ v. map (λ l. (l, v)) (subs arch (on.Channel e.channel))) vs) (emitter_weight arch cost e)
        (going (end from (emitter_code entries from (frame.temps + 2) (frame.first_buffer + k) (slice_index_or frame.scratch k 0) (emitter_words arch e) (subs arch (on.Channel e.channel)))))
    emitter_visits k e vs feeds fits from stands =
        let f : Filled = feeds.buffered.filled in
        loops arch p t x entries cost n Touch TouchB May MayB u (frame.temps + 2) (frame.first_buffer + k) (buffer_for arch e) (slice_index_or frame.scratch k 0) (emitter_words arch e) feeds.around f feeds.buffered.has
        (formed.buffers (frame.first_buffer + k) (buffer_for arch e) f feeds.around.is feeds.buffered.has) may room feeds.few
        (subs arch (on.Channel e.channel)) vs feeds.buffered.count feeds.buffered.slots fits feeds.ready from stands

    pub delivers : (es : List Emitter) (lists : List (List Value)) (k from : ℕ) → AreFed k es lists → ((q : Item) → In q (follow_from arch es lists) → fits_item arch q ≡ true) → Stands t.code from (delivery_code arch entries frame from k es)
        → Visits (setting_of arch) p t x (going from) (follow_from arch es lists) (sum (map (emitter_weight arch cost) es)) (going (end from (delivery_code arch entries frame from k es)))
    delivers [] [] k from fed fits stands = leading (setting_of arch) p t x (going from) 0 (going from) (λ o c. (o, leads.stays p t o, c))
    delivers [] (vs ∷ lists) k from fed fits stands = absurd fed
    delivers (e ∷ es) [] k from fed fits stands = absurd fed
    delivers (e ∷ es) (vs ∷ lists) k from fed fits stands =
        let code : Piece = emitter_code entries from (frame.temps + 2) (frame.first_buffer + k) (slice_index_or frame.scratch k 0) (emitter_words arch e) (subs arch (on.Channel e.channel)) in
        let mid : ℕ = end from code in
        let past : ℕ = end mid (delivery_code arch entries frame mid (suc k) es) in
        let first : List Item = flat_map (λ v. map (λ l. (l, v)) (subs arch (on.Channel e.channel))) vs in
        let rest : List Item = follow_from arch es lists in
        let weight : sum (emitter_weight arch cost e ∷ map (emitter_weight arch cost) es) ≡ emitter_weight arch cost e + sum (map (emitter_weight arch cost) es) = sum_by-cons (λ n. n) (emitter_weight arch cost e) (map (emitter_weight arch cost) es) in
        subst (λ w. Visits (setting_of arch) p t x (going from) (first ++ rest) w (going past)) (sym weight)
        (then_on (setting_of arch) p t x (going from) first (emitter_weight arch cost e) (going mid) rest (sum (map (emitter_weight arch cost) es)) (going past)
        (emitter_visits k e vs fed.0 (λ q h. fits q (in_left q first rest h)) from stands.0)
        (delivers es lists (suc k) mid fed.1 (λ q h. fits q (in_right q first rest h)) stands.1))
