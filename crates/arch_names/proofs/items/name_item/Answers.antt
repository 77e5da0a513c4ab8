use Rattle.arch_names.proofs.items.name_item.Goals as goal

pub returns-in-Record-clause-ok : goal.returns-in-Record-clause-ok
returns-in-Record-clause-ok c = rw (c.in-Record.is, ← c.as_slice.ensures) c.named_record.ensures.ok

pub returns-in-Record-clause-err : goal.returns-in-Record-clause-err
returns-in-Record-clause-err c = rw (c.in-Record.is, ← c.as_slice.ensures) c.named_record.ensures.err
