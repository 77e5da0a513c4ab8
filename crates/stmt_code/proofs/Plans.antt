-- What a frame and typing give the code of one callback.
use Rattle.std.proofs.Common.{◌≡◌, ℕ, zero, suc, ◌+◌, ◌<◌, ◌≤◌, List, [], ◌∷◌, length, map, pos, Some, refl, sym, ap, subst, arith, slice_get, slice_index_or}
use Rattle.std.specs.Prelude.{All, sum}
use Rattle.std.proofs.lemmas.List.{length-map}
use Rattle.std.proofs.lemmas.List.Elements.{All-head, All-tail}
use Rattle.tower_types.specs.declared.scalar.Scalar.TheVariants as scalar
use Rattle.tower_types.specs.Ty.{Ty, scalar as scalar_type, Name, Fields, Shape, shape_in, table_of, words}
use Rattle.tower_types.specs.Value.{word, zero_of}
use Rattle.tower_syntax.specs.declared.body.Root.{Root}
use Rattle.tower_syntax.specs.declared.body.Root.TheVariants as root
use Rattle.tower_syntax.specs.declared.arch.SourceKind.{SourceKind}
use Rattle.tower_syntax.specs.declared.arch.SourceKind.TheVariants as kind
use Rattle.tower_syntax.specs.declared.arch.On.{On}
use Rattle.tower_syntax.specs.declared.arch.On.TheVariants as on
use Rattle.tower_syntax.specs.Arch.{Arch, Source, Channel, Monitor, Emitter, Handler, Body}
use Rattle.tower_syntax.specs.Graph.{handler}
use Rattle.tower_syntax.specs.Weights.{scope_of, root_shape, shape_at, field_shapes, message_on, message_words, emitter_words, channel_message}
use Rattle.tower_syntax.specs.Typed.{IsProper, IsProperType, AreProperFields, HasItsMessage, IsTyped}
use Rattle.tower_meaning.specs.Body.{zeros_of_fields}
use Rattle.tower_meaning.proofs.Fitting.{zero_fits}
use Rattle.task_code.specs.declared.frame.Frame.{Frame}
use Rattle.stmt_code.specs.FrameOf.{laid, binder_words, binders_of, frame_of}
use Rattle.stmt_code.specs.Layout.{Layout, layout_of, binder_at, scratch_at}
use Rattle.stmt_code.proofs.Roots.{IsSmallBody}
use Rattle.stmt_code.proofs.OneStep.{Context}
use Rattle.stmt_code.proofs.Ready.{Laid}
use Rattle.stmt_code.proofs.AllRun.{Plan}
use Rattle.stmt_code.proofs.Apportioned.{place_of, behind, ends_before, in_order}

-- ---- proper shapes

module _ (arch : Arch) where
  has_proper : (s : Source) (k : SourceKind) → HasItsMessage arch s k → IsProperType arch s.message
  has_proper s kind.Init h = subst (IsProperType arch) (sym h) tt
  has_proper s (kind.Period ms) h = subst (IsProperType arch) (sym h.0) tt
  has_proper s kind.Signal h = h

  proper_source : (ss : List Source) (x : ℕ) → All (λ s. HasItsMessage arch s s.kind) ss → IsProperType arch (slice_index_or (map (λ s. s.message) ss) x (scalar_type scalar.I64))
  proper_source [] x h = tt
  proper_source (s ∷ ss) zero h = has_proper s s.kind (All-head (λ y. HasItsMessage arch y y.kind) s ss h)
  proper_source (s ∷ ss) (suc x) h = proper_source ss x (All-tail (λ y. HasItsMessage arch y y.kind) s ss h)

  proper_channel : (cs : List Channel) (x : ℕ) → All (λ c. IsProperType arch c.message) cs → IsProperType arch (slice_index_or (map (λ c. c.message) cs) x (scalar_type scalar.I64))
  proper_channel [] x h = tt
  proper_channel (c ∷ cs) zero h = All-head (λ y. IsProperType arch y.message) c cs h
  proper_channel (c ∷ cs) (suc x) h = proper_channel cs x (All-tail (λ y. IsProperType arch y.message) c cs h)

  proper_message : IsTyped arch → (c : On) → IsProperType arch (message_on arch c)
  proper_message typed (on.Source s) = proper_source arch.sources s typed.sources
  proper_message typed (on.Channel c) = proper_channel arch.channels c typed.channels

  pub proper_field : (fields : Fields) (b : ℕ) → AreProperFields arch fields → IsProper (shape_at (field_shapes (table_of arch.records) fields) b)
  proper_field [] b h = tt
  proper_field (f ∷ fs) zero h = All-head (λ g. IsProperType arch g.1) f fs h
  proper_field (f ∷ fs) (suc b) h = proper_field fs b (All-tail (λ g. IsProperType arch g.1) f fs h)

  proper_monitor : (ms : List Monitor) (m k : ℕ) → All (λ x. AreProperFields arch x.states) ms → IsProper (shape_at (field_shapes (table_of arch.records) (slice_index_or (map (λ x. x.states) ms) m [])) k)
  proper_monitor [] m k h = tt
  proper_monitor (x ∷ ms) zero k h = proper_field x.states k (All-head (λ y. AreProperFields arch y.states) x ms h)
  proper_monitor (x ∷ ms) (suc m) k h = proper_monitor ms m k (All-tail (λ y. AreProperFields arch y.states) x ms h)

  proper_root : IsTyped arch → (h : Handler) (b : Body) → AreProperFields arch b.binders → (r : Root) → IsProper (root_shape (scope_of arch h b) r)
  proper_root typed h b proper root.Param = proper_message typed h.on
  proper_root typed h b proper (root.Binder c) = proper_field b.binders c proper
  proper_root typed h b proper (root.State k) = proper_monitor arch.monitors h.monitor k typed.monitors

  -- ---- zero values

  zero_at : (fields : Fields) (b : ℕ) → b < length (field_shapes (table_of arch.records) fields) → slice_index_or (zeros_of_fields (table_of arch.records) fields) b (word (pos 0)) ≡ zero_of (shape_at (field_shapes (table_of arch.records) fields) b)
  zero_at [] b lt = absurd (omega arith)
  zero_at (f ∷ fs) zero lt = refl
  zero_at (f ∷ fs) (suc b) lt = zero_at fs b (omega arith)

  -- ---- frames

  abbrev binder_shape : Name × Ty → Shape
  binder_shape f = shape_in (table_of arch.records) f.1

  abbrev sent_shape : Emitter → Shape
  sent_shape e = shape_in (table_of arch.records) (channel_message arch e.channel)

  -- the frame of a handler, and one of its callbacks, whose names begin at base
  pub laid_out : IsTyped arch → (h : ℕ) (f : Frame) → f ≡ frame_of arch h f.param f.first_buffer → (i : ℕ) (b : Body) (base : ℕ) → AreProperFields arch b.binders → IsSmallBody arch (handler arch h) b
      → slice_index_or f.binders i [] ≡ laid base (binder_words arch b) → f.param + message_words arch (handler arch h).on ≤ base → base + sum (binder_words arch b) ≤ f.temps
      → Laid (layout_of arch (handler arch h) f i b) (f.param + message_words arch (handler arch h).on) f.end
  laid_out typed h f is i b base proper small names low high =
      let hd = handler arch h in
      let w : Layout = layout_of arch hd f i b in
      let temps_is : f.temps ≡ f.param + message_words arch hd.on + binders_of arch hd = ap (λ z. z.temps) is in
      let end_is : f.end ≡ f.param + message_words arch hd.on + binders_of arch hd + 3 + sum (map (emitter_words arch) hd.emitters) = ap (λ z. z.end) is in
      let scratch_is : f.scratch ≡ laid (f.param + message_words arch hd.on + binders_of arch hd + 3) (map (emitter_words arch) hd.emitters) = ap (λ z. z.scratch) is in
      let count = length-map b.binders binder_shape in
      let sent = length-map hd.emitters sent_shape in
      let at_binder : (c : ℕ) → binder_at w c ≡ place_of binder_shape base b.binders c = λ c. ap (λ l. slice_index_or l c 0) names in
      let at_scratch : (k : ℕ) → scratch_at w k ≡ place_of sent_shape (f.param + message_words arch hd.on + binders_of arch hd + 3) hd.emitters k = λ k. ap (λ l. slice_index_or l k 0) scratch_is in
      record {
        sized = record { small = small; proper = proper_root typed hd b proper };
        low = omega arith;
        apart = λ c d lt le. let q = in_order binder_shape b.binders base c d lt (omega (arith, count, le)) in let e1 = at_binder c in let e2 = at_binder d in omega (arith, q, e1, e2);
        behind_param = λ c lt. let q = behind binder_shape b.binders base c (omega (arith, count, lt)) in let e1 = at_binder c in omega (arith, q, e1, low);
        before_temps = λ c lt. let q = ends_before binder_shape b.binders base c (omega (arith, count, lt)) in let e1 = at_binder c in omega (arith, q, e1, high);
        param_temps = omega (arith, low, high);
        high = omega (arith, temps_is, end_is);
        behind_temps = λ k lt. let q = behind sent_shape hd.emitters (f.param + message_words arch hd.on + binders_of arch hd + 3) k (omega (arith, sent, lt)) in let e1 = at_scratch k in omega (arith, q, e1, temps_is);
        scratch_high = λ k lt. let q = ends_before sent_shape hd.emitters (f.param + message_words arch hd.on + binders_of arch hd + 3) k (omega (arith, sent, lt)) in let e1 = at_scratch k in omega (arith, q, e1, end_is);
      }

  pub planned : IsTyped arch → (h : ℕ) (f : Frame) (r : Context) → f ≡ frame_of arch h f.param f.first_buffer → (i : ℕ) (b : Body) (base : ℕ) → AreProperFields arch b.binders → IsSmallBody arch (handler arch h) b
      → slice_index_or f.binders i [] ≡ laid base (binder_words arch b) → f.param + message_words arch (handler arch h).on ≤ base → base + sum (binder_words arch b) ≤ f.temps
      → ((k : ℕ) → k < length (map sent_shape (handler arch h).emitters) → slice_get r.task.buffers (f.first_buffer + k) ≡ Some (record { width = words (shape_at (map sent_shape (handler arch h).emitters) k); bound = r.bound k }))
      → Plan (layout_of arch (handler arch h) f i b) (f.param + message_words arch (handler arch h).on) f.end r (zeros_of_fields (table_of arch.records) b.binders)
  planned typed h f r is i b base proper small names low high tables = record {
    laid = laid_out typed h f is i b base proper small names low high;
    zero_is = λ c lt. zero_at b.binders c lt;
    zero_fits = λ c lt. zero_fits (shape_at (field_shapes (table_of arch.records) b.binders) c) (proper_field b.binders c proper);
    tables = tables;
  }
