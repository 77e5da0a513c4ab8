-- How a call ends by its parts.
use Rattle.std.proofs.Common.{◌≡◌, ◌≤◌, ℕ, List, [], inl, inr, ◌⊎◌, Option, Some, None, Bool, true, false, refl, sym, subst, ◌∙◌, arith}
use Rattle.std.proofs.lemmas.Bool.{false≢true}
use Rattle.tower_io.specs.declared.answers.Put.{Put}
use Rattle.tower_io.specs.declared.answers.Put.TheVariants as put
use Rattle.tower_io.specs.Faults.{Rose}
use Rattle.tower_io.specs.Sinks.{Adds, AddsPrefix, OnDone, OnPutFailed}
use Rattle.tower_io.proofs.Adding.{Adds_none}
use Rattle.tower_report.specs.Bytes.{Bytes}
use Rattle.tower_report.specs.Puts.{Puts}
use Rattle.tower_report.specs.RefusalText.{unread_line, usage_line}
use Rattle.tower_top.specs.declared.status.Status.{Status}
use Rattle.tower_top.specs.declared.status.Status.TheVariants.{Done, Refused, Usage, ReadFault, WriteFault, NoMemory, BadInput, Stopped, No}
use Rattle.tower_top.specs.Calls.{Held, ShelfTold, SinkTold, Change, Call, still, sink_change, IsSame, HasRisen, Gets, GetsPart, FailsAt}
use Rattle.tower_top.specs.Requests.{Input, Request, no_command, reads, answers, HasRead, HasFault, IsDue, IsToRead}
use Rattle.tower_top.specs.Commands.{choose, where_given}
use Rattle.tower_top.specs.Endings.{Prospect, Answers, FailsToRead, IsToWrite, due, unread, FailsToWrite, LacksMemory, EndsAs, prospect, Ends, at_input, Stops, status_after}

-- ---- what a sink took

-- it was not touched
pub still_gets : (c : Change SinkTold) → IsSame c → Gets c []
still_gets c same =
    let W : SinkTold → Type 0 = λ t. Adds c.before.written t.written [] in
    let F : SinkTold → Type 0 = λ t. t.faults ≡ c.before.faults in
    record { adds = subst W (sym same) (Adds_none c.before.written); calm = subst F (sym same) refl }

pub still_part : (c : Change SinkTold) → IsSame c → GetsPart c []
still_part c same =
    let g = still_gets c same in
    let calm = g.calm in
    record { part = record { part = []; rest = []; whole = refl; adds = g.adds }; never_falls = omega arith }

module _ {S : Type 0} (w : S → Option (List ℕ)) (f : S → ℕ) (old new : S) (text : Bytes) where
  pub took : Puts w f old new text put.Done → Gets (sink_change w f old new) text
  took puts = record { adds = puts.all; calm = puts.calm }

  pub took_part : Puts w f old new text put.Failed → GetsPart (sink_change w f old new) text
  took_part puts = record { part = puts.part; never_falls = puts.never_falls }

-- ---- prospects

-- what is due in one prospect is due in another
module _ (p q : Prospect) (call : Call) (more_due : (s : Status) (o e : Bytes) → p.IsDue s o e → q.IsDue s o e) (more_to_read : (n : List ℕ) → p.IsToRead n → q.IsToRead n) where
  answers_more : (s : Status) → Answers p call s → Answers q call s
  answers_more s a = record { out_text = a.out_text; err_text = a.err_text; due = more_due s a.out_text a.err_text a.due; out_gets = a.out_gets; err_gets = a.err_gets; shelf_same = a.shelf_same }

  to_write_more : (o e : Bytes) → IsToWrite p call o e → IsToWrite q call o e
  to_write_more o e (due s out err is same) = due s out err (more_due s out err is) same
  to_write_more o e (unread n is fails) = unread n (more_to_read n is) fails

  pub ends_more : (s : Status) → EndsAs p call s → EndsAs q call s
  ends_more Done a = answers_more Done a
  ends_more Refused a = answers_more Refused a
  ends_more Usage a = answers_more Usage a
  ends_more BadInput a = answers_more BadInput a
  ends_more Stopped a = answers_more Stopped a
  ends_more No a = answers_more No a
  ends_more ReadFault a = record { name = a.name; to_read = more_to_read a.name a.to_read; fails = a.fails; out_same = a.out_same; err_gets = a.err_gets }
  ends_more WriteFault a = record {
    out_text = a.out_text;
    err_text = a.err_text;
    to_write = to_write_more a.out_text a.err_text a.to_write;
    rose = a.rose;
    out_gets = a.out_gets;
    err_gets = a.err_gets;
  }
  ends_more NoMemory a = record { shelf_same = a.shelf_same; out_same = a.out_same; err_same = a.err_same }

-- ---- puts

module _ {S : Type 0} (w : S → Option (List ℕ)) (f : S → ℕ) (old new : S) (p : Prospect) (shelf : Change ShelfTold) where
  -- a line on `err`, and nothing on `out`
  pub line_ends : (out : Change SinkTold) (s : Status) → let call : Call = record { shelf = shelf; out = out; err = sink_change w f old new } in
      (Answers p call s → EndsAs p call s) → (r : Put) (line : Bytes) → p.IsDue s [] line → IsSame shelf → IsSame out → Puts w f old new line r → EndsAs p call (status_after r s)
  line_ends out s answered put.Done line is same out_same puts =
      answered (record { out_text = []; err_text = line; due = is; out_gets = still_gets out out_same; err_gets = took w f old new line puts; shelf_same = same })
  line_ends out s answered put.Failed line is same out_same puts =
      record { out_text = []; err_text = line; to_write = due s [] line is same; rose = inr puts.rose; out_gets = still_part out out_same; err_gets = took_part w f old new line puts }

  -- a text on `out`, and nothing on `err`
  pub text_ends : (err : Change SinkTold) (s : Status) → let call : Call = record { shelf = shelf; out = sink_change w f old new; err = err } in
      (Answers p call s → EndsAs p call s) → (r : Put) (text : Bytes) → p.IsDue s text [] → IsSame shelf → IsSame err → Puts w f old new text r → EndsAs p call (status_after r s)
  text_ends err s answered put.Done text is same err_same puts =
      answered (record { out_text = text; err_text = []; due = is; out_gets = took w f old new text puts; err_gets = still_gets err err_same; shelf_same = same })
  text_ends err s answered put.Failed text is same err_same puts =
      record { out_text = text; err_text = []; to_write = due s text [] is same; rose = inl puts.rose; out_gets = took_part w f old new text puts; err_gets = still_part err err_same }

  -- the line of an input that could not be read
  pub unread_ends : (out : Change SinkTold) → let call : Call = record { shelf = shelf; out = out; err = sink_change w f old new } in
      (r : Put) (name : List ℕ) → p.IsToRead name → FailsAt shelf name → IsSame out → Puts w f old new (unread_line name) r → EndsAs p call (status_after r ReadFault)
  unread_ends out put.Done name is fails out_same puts =
      record { name = name; to_read = is; fails = fails; out_same = out_same; err_gets = took w f old new (unread_line name) puts }
  unread_ends out put.Failed name is fails out_same puts =
      record { out_text = []; err_text = unread_line name; to_write = unread name is fails; rose = inr puts.rose; out_gets = still_part out out_same; err_gets = took_part w f old new (unread_line name) puts }

-- ---- requests

-- the request ends at an input
pub stopped_at : {i : Input} {next : i.Value → Request} {shelf : Change ShelfTold} {err : Change SinkTold} {s : Status} (out : SinkTold)
    → Stops i shelf err s → Ends (reads i next) (record { shelf = shelf; out = still out; err = err }) s
stopped_at {i} {next} {shelf} {err} {s} out stops = record {
  ends = ends_more (at_input shelf.before.held i) (prospect shelf.before.held (reads i next)) _ (λ s o e h. inl h) (λ n h. inl h) s (stops.ends out);
}

-- an input was read, and the request goes on behind it
pub went_on : {i : Input} {next : i.Value → Request} {v : i.Value} (shelf : Change ShelfTold) (err : Change SinkTold) (call : Call) {s : Status}
    → HasRead shelf.before.held i v → IsSame shelf → IsSame err → call.shelf.before ≡ shelf.after → call.err.before ≡ err.after → Ends (next v) call s
    → Ends (reads i next) (record { shelf = record { before = shelf.before; after = call.shelf.after }; out = call.out; err = record { before = err.before; after = call.err.after } }) s
went_on {i} {next} {v} shelf err call {s} has shelf_same err_same shelf_is err_is ends =
    let P : ShelfTold → SinkTold → Type 0 = λ a b.
    Ends (next v) (record { shelf = record { before = a; after = call.shelf.after }; out = call.out; err = record { before = b; after = call.err.after } }) s in
    let joined : P shelf.before err.before = subst (λ (a : ShelfTold). P a err.before) (shelf_is ∙ shelf_same) (subst (λ (b : SinkTold). P call.shelf.before b) (err_is ∙ err_same) ends) in
    record { ends = ends_more (prospect shelf.before.held (next v)) (prospect shelf.before.held (reads i next)) _ (λ s o e h. inr (v, has, h)) (λ n h. inr (v, has, h)) s joined.ends }

-- all inputs are there, and the text was put
pub answered : {S : Type 0} {w : S → Option (List ℕ)} {f : S → ℕ} {old new : S} {text : Bytes} {shelf : Change ShelfTold} {err : Change SinkTold} (s : Status) (r : Put)
    → ((p : Prospect) (call : Call) → Answers p call s → EndsAs p call s)
    → IsSame shelf → IsSame err → Puts w f old new text r → Ends (answers s text) (record { shelf = shelf; out = sink_change w f old new; err = err }) (status_after r s)
answered {S} {w} {f} {old} {new} {text} {shelf} {err} s r plain same err_same puts = record {
  ends = text_ends w f old new (prospect shelf.before.held (answers s text)) shelf err s (plain _ _) r text (refl, refl, refl) same err_same puts;
}

-- the words give no command
pub refused_words : {S : Type 0} {w : S → Option (List ℕ)} {f : S → ℕ} {old new : S} {shelf : Change ShelfTold} {out : Change SinkTold} (r : Put)
    → IsSame shelf → IsSame out → Puts w f old new usage_line r → Ends no_command (record { shelf = shelf; out = out; err = sink_change w f old new }) (status_after r Usage)
refused_words {S} {w} {f} {old} {new} {shelf} {out} r same out_same puts = record {
  ends = line_ends w f old new (prospect shelf.before.held no_command) shelf out Usage (λ a. a) r usage_line (refl, refl, refl) same out_same puts;
}

-- ---- inputs

-- an input has a fault
pub wrong_stops : {S : Type 0} {w : S → Option (List ℕ)} {f : S → ℕ} {old new : S} {line : Bytes} {shelf : Change ShelfTold} (i : Input) (r : Put)
    → ((p : Prospect) (call : Call) → Answers p call i.status → EndsAs p call i.status)
    → HasFault shelf.before.held i line → IsSame shelf → Puts w f old new line r → Stops i shelf (sink_change w f old new) (status_after r i.status)
wrong_stops {S} {w} {f} {old} {new} {line} {shelf} i r plain wrong same puts = record {
  ends = λ out. line_ends w f old new (at_input shelf.before.held i) shelf (still out) i.status (plain _ _) r line (refl, refl, wrong) same refl puts;
}

-- an input could not be read
pub unread_stops : {S : Type 0} {w : S → Option (List ℕ)} {f : S → ℕ} {old new : S} {shelf : Change ShelfTold} (i : Input) (r : Put)
    → FailsAt shelf i.name → Puts w f old new (unread_line i.name) r → Stops i shelf (sink_change w f old new) (status_after r ReadFault)
unread_stops {S} {w} {f} {old} {new} {shelf} i r fails puts = record {
  ends = λ out. unread_ends w f old new (at_input shelf.before.held i) shelf (still out) r i.name refl fails refl puts;
}

-- memory was wanting
pub memory_stops : (i : Input) (shelf : Change ShelfTold) (err : Change SinkTold) → IsSame shelf → IsSame err → Stops i shelf err NoMemory
memory_stops i shelf err same err_same = record { ends = λ out. record { shelf_same = same; out_same = refl; err_same = err_same } }

-- ---- choices

pub chosen : (x y : Request) {call : Call} {s : Status} (b : Bool) → b ≡ true → Ends x call s → Ends (choose b x y) call s
chosen x y true e h = h
chosen x y false e h = absurd (false≢true e)

pub not_chosen : (x y : Request) {call : Call} {s : Status} (b : Bool) → b ≡ false → Ends y call s → Ends (choose b x y) call s
not_chosen x y true e h = absurd (false≢true (sym e))
not_chosen x y false e h = h

pub where_some : {A : Type 0} (next : A → Request) {call : Call} {s : Status} (o : Option A) (x : A) → o ≡ Some x → Ends (next x) call s → Ends (where_given o next) call s
where_some {A} next {call} {s} o x e h = let P : Option A → Type 0 = λ o. Ends (where_given o next) call s in subst P (sym e) h

pub where_none : {A : Type 0} (next : A → Request) {call : Call} {s : Status} (o : Option A) → o ≡ None → Ends no_command call s → Ends (where_given o next) call s
where_none {A} next {call} {s} o e h = let P : Option A → Type 0 = λ o. Ends (where_given o next) call s in subst P (sym e) h

-- memory was wanting
pub lacks_memory : (request : Request) (call : Call) → IsSame call.shelf → IsSame call.out → IsSame call.err → Ends request call NoMemory
lacks_memory request call shelf out err = record { ends = record { shelf_same = shelf; out_same = out; err_same = err } }
