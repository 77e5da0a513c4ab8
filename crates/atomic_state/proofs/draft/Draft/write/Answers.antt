use Rattle.std.proofs.Common.{◌≡◌, ◌∙◌, ap}
use Rattle.atomic_state.specs.Drafted.{Drafted}
use Rattle.atomic_state.specs.TreeView.{tree_of}
use Rattle.atomic_state.proofs.Undone.{write_kept}
use Rattle.atomic_state.proofs.draft.Draft.write.Goals as goal

pub returns-clause-before : goal.returns-clause-before
returns-clause-before c =
    write_kept c.self.inside.changes.items c.reserve.new.self.items c.push_reserved.new.self.items _ c.as_slice.result.now (tree_of c.self.inside.value) (tree_of c.exchange-old.new.tree) (tree_of c.args.new)
    c.push_reserved.ensures.items c.in_ok-reserve.ensures.items c.exchange-old.ensures.after c.exchange-old.ensures.before c.as_slice.ensures.value
    ∙ ap (λ (d : Drafted). d.before) c.self.view_is
