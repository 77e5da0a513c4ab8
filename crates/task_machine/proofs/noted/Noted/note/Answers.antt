use Rattle.std.proofs.Common.{◌≡◌, ℕ, ◌+◌, ◌<◌, ◌/◌, List, Bool, false, true, length, Some, None, slice_get, slice_set, arith, sym, ap, ◌∙◌, subst}
use Rattle.task_machine.specs.Noted.{lock_in}
use Rattle.task_machine.proofs.Kept.{get_read}
use Rattle.task_machine.proofs.BitWords.{word_exists}
use Rattle.task_machine.proofs.Settling.{noted_free, noted_lock, monitor_within}
use Rattle.task_machine.proofs.noted.Noted.note.Goals as goal

pub index_mut-requires-in-Some : goal.index_mut-requires-in-Some
index_mut-requires-in-Some c =
    let s = c.args.running.now in
    let rows = c.self.inside.at_lock.items in
    let places = rw (← c.self.view_is) at c.requires.places in
    let none = rw (← c.self.view_is) at c.requires.none in
    let e : lock_in c.action-action.result ≡ Some c.in-Some.m = sym c.in-Some.ensures in
    let h = monitor_within s c.args.x _ c.action-action.result c.action-action.ensures c.requires.task places none c.in-Some.m e in
    omega (arith, h, c.self.inside.at_lock.ok.0)

pub add-requires : goal.add-requires
add-requires c =
    let s = c.args.running.now in
    let rows = c.self.inside.at_lock.items in
    let places = rw (← c.self.view_is) at c.requires.places in
    let none = rw (← c.self.view_is) at c.requires.none in
    let e : lock_in c.action-action.result ≡ Some c.in-Some.m = sym c.in-Some.ensures in
    let h = monitor_within s c.args.x _ c.action-action.result c.action-action.ensures c.requires.task places none c.in-Some.m e in
    let row = c.index_mut-in-Some.result.now in
    let at : slice_get rows c.in-Some.m ≡ Some row = get_read rows c.in-Some.m row h c.index_mut-in-Some.ensures.value in
    let w = places.words c.in-Some.m row at in
    rw w (word_exists c.args.x _ c.requires.task)

pub returns-in-Some-clause-places : goal.returns-in-Some-clause-places
returns-in-Some-clause-places c =
    let s = c.args.running.now in
    let rows = c.self.inside.at_lock.items in
    let places = rw (← c.self.view_is) at c.requires.places in
    let none = rw (← c.self.view_is) at c.requires.none in
    let e : lock_in c.action-action.result ≡ Some c.in-Some.m = sym c.in-Some.ensures in
    let h = monitor_within s c.args.x _ c.action-action.result c.action-action.ensures c.requires.task places none c.in-Some.m e in
    let row = c.index_mut-in-Some.result.now in
    let at : slice_get rows c.in-Some.m ≡ Some row = get_read rows c.in-Some.m row h c.index_mut-in-Some.ensures.value in
    (noted_lock s c.args.x _ c.action-action.result c.action-action.ensures c.requires.task places none c.in-Some.m row c.add.new.self e at c.add.ensures.here c.add.ensures.others c.add.ensures.count).places

pub returns-in-Some-clause-here : goal.returns-in-Some-clause-here
returns-in-Some-clause-here c =
    let s = c.args.running.now in
    let rows = c.self.inside.at_lock.items in
    let places = rw (← c.self.view_is) at c.requires.places in
    let none = rw (← c.self.view_is) at c.requires.none in
    let e : lock_in c.action-action.result ≡ Some c.in-Some.m = sym c.in-Some.ensures in
    let h = monitor_within s c.args.x _ c.action-action.result c.action-action.ensures c.requires.task places none c.in-Some.m e in
    let row = c.index_mut-in-Some.result.now in
    let at : slice_get rows c.in-Some.m ≡ Some row = get_read rows c.in-Some.m row h c.index_mut-in-Some.ensures.value in
    (noted_lock s c.args.x _ c.action-action.result c.action-action.ensures c.requires.task places none c.in-Some.m row c.add.new.self e at c.add.ensures.here c.add.ensures.others c.add.ensures.count).here

pub returns-in-Some-clause-others : goal.returns-in-Some-clause-others
returns-in-Some-clause-others c =
    let s = c.args.running.now in
    let rows = c.self.inside.at_lock.items in
    let places = rw (← c.self.view_is) at c.requires.places in
    let none = rw (← c.self.view_is) at c.requires.none in
    let e : lock_in c.action-action.result ≡ Some c.in-Some.m = sym c.in-Some.ensures in
    let h = monitor_within s c.args.x _ c.action-action.result c.action-action.ensures c.requires.task places none c.in-Some.m e in
    let row = c.index_mut-in-Some.result.now in
    let at : slice_get rows c.in-Some.m ≡ Some row = get_read rows c.in-Some.m row h c.index_mut-in-Some.ensures.value in
    rw (← c.self.view_is) (noted_lock s c.args.x _ c.action-action.result c.action-action.ensures c.requires.task places none c.in-Some.m row c.add.new.self e at c.add.ensures.here c.add.ensures.others c.add.ensures.count).others

pub returns-in-None-clause-places : goal.returns-in-None-clause-places
returns-in-None-clause-places c =
    let s = c.args.running.now in
    let places = rw (← c.self.view_is) at c.requires.places in
    let none = rw (← c.self.view_is) at c.requires.none in
    (noted_free s c.args.x _ c.action-action.result c.action-action.ensures c.requires.task places none (sym c.in-None.ensures)).places

pub returns-in-None-clause-here : goal.returns-in-None-clause-here
returns-in-None-clause-here c =
    let s = c.args.running.now in
    let places = rw (← c.self.view_is) at c.requires.places in
    let none = rw (← c.self.view_is) at c.requires.none in
    (noted_free s c.args.x _ c.action-action.result c.action-action.ensures c.requires.task places none (sym c.in-None.ensures)).here

pub returns-in-None-clause-others : goal.returns-in-None-clause-others
returns-in-None-clause-others c =
    let s = c.args.running.now in
    let places = rw (← c.self.view_is) at c.requires.places in
    let none = rw (← c.self.view_is) at c.requires.none in
    rw (← c.self.view_is) (noted_free s c.args.x _ c.action-action.result c.action-action.ensures c.requires.task places none (sym c.in-None.ensures)).others
