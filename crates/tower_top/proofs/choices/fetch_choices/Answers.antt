use Rattle.std.proofs.Common.{sym, subst, ◌∙◌}
use Rattle.event_record.specs.Choices.{SpellsChoices, IsChoiceFault, choices_format}
use Rattle.event_record.specs.declared.choices.ChoiceFault.TheVariants as fault
use Rattle.tower_top.proofs.Fetching.{shelf_same, fails_at, long_is_first}
use Rattle.tower_top.proofs.InputFacts.{told, long}
use Rattle.tower_top.proofs.choices.fetch_choices.Goals as goal

pub returns-in-Long : goal.returns-in-Long
returns-in-Long g c =
    let e = c.in-Long.ensures in
    let l = long _ _ 16777216 e.front (sym c.fetch.new.out.ok.0 ∙ e.long) in
    (record { text = l.0; is_held = l.1; is = long_is_first choices_format l.0 l.2 }, shelf_same g.F.Shelf.held g.F.Shelf.blamed g.F.Shelf.faults c.args.shelf.now c.fetch.new.shelf e.holds e.blames_none e.calm)

pub returns-in-Failed : goal.returns-in-Failed
returns-in-Failed g c =
    let e = c.in-Failed.ensures in
    fails_at g.F.Shelf.held g.F.Shelf.blamed g.F.Shelf.faults c.args.shelf.now c.fetch.new.shelf c.args.name.now e.blames e.rose e.never_falls e.holds

pub returns-in-NoMemory : goal.returns-in-NoMemory
returns-in-NoMemory g c =
    let e = c.in-NoMemory.ensures in
    shelf_same g.F.Shelf.held g.F.Shelf.blamed g.F.Shelf.faults c.args.shelf.now c.fetch.new.shelf e.holds e.blames_none e.calm

pub returns-in-Ok : goal.returns-in-Ok
returns-in-Ok g c =
    let e = c.in-Done.ensures in
    let same = c.as_slice.ensures.value in (
      record {
        text = c.fetch.new.out.items;
        is_held = told _ _ e.text;
        is = subst (λ t. SpellsChoices t c.in-Ok.choices.items) same c.in-Ok.ensures.ok;
      },
      shelf_same g.F.Shelf.held g.F.Shelf.blamed g.F.Shelf.faults c.args.shelf.now c.fetch.new.shelf e.holds e.blames_none e.calm,
    )

pub returns-in-Err-At : goal.returns-in-Err-At
returns-in-Err-At g c =
    let e = c.in-Done.ensures in
    let same = c.as_slice.ensures.value in (
      record {
        text = c.fetch.new.out.items;
        is_held = told _ _ e.text;
        is = subst (λ t. IsChoiceFault t (fault.At c.in-Err-At.line c.in-Err-At.kind)) same (rw c.in-Err-At.field-0-is at c.in-Err-At.ensures.fault);
      },
      shelf_same g.F.Shelf.held g.F.Shelf.blamed g.F.Shelf.faults c.args.shelf.now c.fetch.new.shelf e.holds e.blames_none e.calm,
    )
