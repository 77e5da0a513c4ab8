-- The codes of a view, by which a struct may have it in its model.
use Rattle.std.proofs.Common.{◌≡◌, ◌⊎◌, ℕ, List, Option, refl, inl, inr}
use Rattle.std.specs.Coded.{Coded, code_by, coded_ℕ, coded_list, coded_option, coded×, coded⊎}
use Rattle.tower_types.specs.Ty.{Ty, Name, Records}
use Rattle.tower_types.specs.Codes.{coded_ty}
use Rattle.tower_syntax.specs.contracts.arch.SourceKind as kinds
use Rattle.tower_syntax.specs.contracts.arch.On as ons
use Rattle.tower_syntax.specs.declared.arch.SourceKind.{SourceKind}
use Rattle.tower_syntax.specs.declared.arch.On.{On}
use Rattle.tower_syntax.specs.Arch.{Channel, Emitter}
use Rattle.tower_syntax.specs.Codes.{coded_channel, coded_emitter}
use Rattle.aadl_view.specs.View.{SourceView, HandlerView, ListenerView, hears, handles, ArchView}

abbrev coded_name : Coded Name
coded_name = coded_list coded_ℕ

abbrev pub coded_source_view : Coded SourceView
coded_source_view =
    code_by (Name × (SourceKind × (ℕ × (Ty × (Option ℕ × List ℕ)))))
    (coded× coded_name (coded× kinds.the_row.coded (coded× coded_ℕ (coded× coded_ty (coded× (coded_option coded_ℕ) (coded_list coded_ℕ))))))
    (λ r. (r.name, (r.kind, (r.priority, (r.message, (r.depth, r.touches))))))
    (λ p. record { name = p.0; kind = p.1.0; priority = p.1.1.0; message = p.1.1.1.0; depth = p.1.1.1.1.0; touches = p.1.1.1.1.1 })
    (λ _. refl)

abbrev pub coded_handler_view : Coded HandlerView
coded_handler_view =
    code_by (Name × (ℕ × (On × List Emitter))) (coded× coded_name (coded× coded_ℕ (coded× ons.the_row.coded (coded_list coded_emitter))))
    (λ r. (r.name, (r.monitor, (r.on, r.emitters))))
    (λ p. record { name = p.0; monitor = p.1.0; on = p.1.1.0; emitters = p.1.1.1 })
    (λ _. refl)

abbrev cases : ListenerView → (Name × ℕ) ⊎ HandlerView
cases (hears n c) = inl (n, c)
cases (handles h) = inr h

abbrev listener : (Name × ℕ) ⊎ HandlerView → ListenerView
listener (inl p) = hears p.0 p.1
listener (inr h) = handles h

abbrev listener_cases : (l : ListenerView) → listener (cases l) ≡ l
listener_cases (hears n c) = refl
listener_cases (handles h) = refl

abbrev pub coded_listener_view : Coded ListenerView
coded_listener_view = code_by ((Name × ℕ) ⊎ HandlerView) (coded⊎ (coded× coded_name coded_ℕ) coded_handler_view) cases listener listener_cases

abbrev coded_records : Coded Records
coded_records = coded_list (coded_list (coded× coded_name coded_ty))

abbrev pub coded_arch_view : Coded ArchView
coded_arch_view =
    code_by (ℕ × (Name × (Records × (List Name × (List SourceView × (List Channel × (List ListenerView × List Name)))))))
    (coded× coded_ℕ (coded× coded_name (coded× coded_records (coded× (coded_list coded_name)
    (coded× (coded_list coded_source_view) (coded× (coded_list coded_channel) (coded× (coded_list coded_listener_view) (coded_list coded_name))))))))
    (λ r. (r.version, (r.name, (r.records, (r.record_names, (r.sources, (r.channels, (r.listeners, r.monitors))))))))
    (λ p. record { version = p.0; name = p.1.0; records = p.1.1.0; record_names = p.1.1.1.0; sources = p.1.1.1.1.0; channels = p.1.1.1.1.1.0; listeners = p.1.1.1.1.1.1.0; monitors = p.1.1.1.1.1.1.1 })
    (λ _. refl)
