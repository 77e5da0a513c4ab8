use Rattle.std.proofs.Common.{◌≡◌, ◌∙◌, ◌<◌, ◌++◌, ℕ, List, length, map, All, true, sym, ap, subst, arith}
use Rattle.std.specs.Prelude.{nat_lt}
use Rattle.std.proofs.lemmas.List.{length-map}
use Rattle.std.proofs.lemmas.List.Elements.{All-weaker}
use Rattle.std.proofs.lemmas.Bool.Decides.{nat_tests}
use Rattle.tower_types.specs.Value.{Value, fits}
use Rattle.tower_types.specs.View.{value_of}
use Rattle.tower_types.proofs.Flat.{both}
use Rattle.tower_syntax.specs.Arch.{Arch}
use Rattle.tower_syntax.specs.declared.arch.Listener.TheVariants as to
use Rattle.tower_meaning.specs.Fits.{fits_item}
use Rattle.tower_report.specs.Bytes.{Bytes}
use Rattle.tower_report.specs.MarkText.{output_shape}
use Rattle.tower_run.proofs.Paging.{over_then, over_stop, over_same}
use Rattle.tower_replay.specs.Pieces.{AreOutputs, messages_text, monitors_text}
use Rattle.tower_replay.proofs.text.put_shown.Goals as goal

is_less : (m n : ℕ) → nat_lt m n ≡ true → m < n
is_less m n e = grind (arith, nat_tests)

exist : (arch : Arch) (outputs : List (ℕ × Value)) → All (λ o. fits_item arch (to.Output o.0, o.1) ≡ true) outputs → AreOutputs arch outputs
exist arch outputs fit =
    All-weaker (λ (o : ℕ × Value). fits_item arch (to.Output o.0, o.1) ≡ true) (λ (o : ℕ × Value). o.0 < length arch.outputs)
    (λ o h. is_less o.0 (length arch.outputs) (both (nat_lt o.0 (length arch.outputs)) (fits (output_shape arch o.0) o.1) h).0) outputs fit

pub put_messages-requires-clause-exist : goal.put_messages-requires-clause-exist
put_messages-requires-clause-exist g c =
    subst (AreOutputs c.args.arch.now) (sym c.outputs.ensures) (exist c.args.arch.now c.args.state.now.state.outputs c.requires.fits.outputs)

pub put_monitors-requires-clause-count : goal.put_monitors-requires-clause-count
put_monitors-requires-clause-count g c =
    sym (length-map c.args.monitors.now value_of) ∙ ap length c.requires.values ∙ c.requires.fits.monitor_count

pub returns-in-Done : goal.returns-in-Done
returns-in-Done g c =
    let arch = c.args.arch.now in
    over_then c.put_monitors.result (over_same (ap (messages_text arch) c.outputs.ensures) c.in-Done.ensures) (over_same (ap (monitors_text arch) c.requires.values) c.put_monitors.ensures)

pub returns-in-Failed : goal.returns-in-Failed
returns-in-Failed g c =
    let arch = c.args.arch.now in
    over_stop (monitors_text arch c.args.state.now.state.monitors) (over_same (ap (messages_text arch) c.outputs.ensures) c.in-Failed.ensures)
