use Rattle.std.proofs.Common.{◌≡◌, take, ap, sym, ◌∙◌, subst}
use Rattle.tower_io.specs.declared.answers.Put.TheVariants as put
use Rattle.tower_report.specs.Bytes.{Bytes}
use Rattle.tower_report.specs.Puts.{Puts}
use Rattle.tower_run.specs.Paging.{PutsOver}
use Rattle.tower_replay.specs.Pieces.{piece_text}
use Rattle.tower_run.proofs.Paging.{taken_back, over_past, over_flush_failed}
use Rattle.tower_replay.proofs.piece.put_paged.Goals as goal

pub returns-in-Done-flush : goal.returns-in-Done-flush
returns-in-Done-flush g c =
    let w = g.O.Sink.written in
    let f = g.O.Sink.faults in
    let held = c.args.page.now.held in
    let text = piece_text c.args.arch.now c.args.piece in
    let back : c.cut.new.self.held ≡ held = c.cut.ensures ∙ ap (λ n. take n c.put_piece.new.out.held) c.len-len.ensures ∙ taken_back held c.put_piece.new.out.held text c.in-Failed.ensures.part in
    let H : Bytes → Type 0 = λ h. Puts w f c.args.out.now c.flush.new.out h put.Done in
    let E : Bytes → Type 0 = λ e. PutsOver w f c.args.out.now held c.put_piece-in-Done-flush.new.out e text c.put_piece-in-Done-flush.result in
    subst E (sym c.in-Done-flush.ensures.empty)
    (over_past w f c.args.out.now c.flush.new.out c.put_piece-in-Done-flush.new.out held text c.put_piece-in-Done-flush.result (subst H back c.in-Done-flush.ensures.puts) c.put_piece-in-Done-flush.ensures)

pub returns-in-Failed-flush : goal.returns-in-Failed-flush
returns-in-Failed-flush g c =
    let w = g.O.Sink.written in
    let f = g.O.Sink.faults in
    let held = c.args.page.now.held in
    let text = piece_text c.args.arch.now c.args.piece in
    let back : c.cut.new.self.held ≡ held = c.cut.ensures ∙ ap (λ n. take n c.put_piece.new.out.held) c.len-len.ensures ∙ taken_back held c.put_piece.new.out.held text c.in-Failed.ensures.part in
    let H : Bytes → Type 0 = λ h. Puts w f c.args.out.now c.flush.new.out h put.Failed in
    over_flush_failed w f c.args.out.now c.flush.new.out held c.flush.new.self.held text (subst H back c.in-Failed-flush.ensures.puts)
