-- A reader stands for the text that it has taken.
use Rattle.std.proofs.Common.{◌≡◌, ℕ, ◌+◌, ◌<◌, ◌≤◌, length, List, [], ◌∷◌, ◌++◌, true, false, refl, ap, sym, ◌∙◌, subst, arith, cond, nat_lt, Option, Some, None, Result, Ok, Err}
use Rattle.std.proofs.lemmas.List.{length-append}
use Rattle.std.proofs.lemmas.Bool.{lt-ltb, le-ltb}
use Rattle.tower_sexp.specs.declared.fault.SexpFault.{SexpFault}
use Rattle.tower_sexp.specs.declared.fault.SexpFault.TheVariants as token
use Rattle.tower_sexp.specs.declared.token.Token.{Token}
use Rattle.tower_sexp.specs.Marks.{marks_of, tokens_of}
use Rattle.tower_sexp.specs.Faults.{IsFaultless}
use Rattle.tower_sexp.specs.Faults.{IsFault as IsTokenFault}
use Rattle.tower_sexp.specs.FirstFault.{first_fault}
use Rattle.tower_sexp.specs.WholeTokens.{whole_tokens, GrowsAlike, EndsInAtom, depth_behind}
use Rattle.tower_sexp.specs.Standing.{StandsFor as LexerStandsFor, count_unclosed}
use Rattle.tower_sexp.proofs.Firsts.{faultless_is_computed, fault_is_computed}
use Rattle.tower_sexp.proofs.Spelled.{faultless_spells}
use Rattle.tower_sexp.specs.Nesting.{trees_spelled}
use Rattle.tower_sexp.specs.Trees.{Trees}
use Rattle.tower_syntax.specs.RawTree.{Id, Raw}
use Rattle.tower_syntax.specs.RawView.{raw_of}
use Rattle.tower_syntax.specs.declared.raw.Raw.{Raw as RawValue}
use Rattle.std.specs.Prelude.{IfOk, IfErr, ◌≢◌, vec_capacity}
use Rattle.tower_reader.specs.declared.fault.ReadFault.{ReadFault}
use Rattle.tower_reader.specs.declared.fault.ReadFault.TheVariants as fault
use Rattle.tower_reader.specs.declared.reader.Reader.{Reader}
use Rattle.tower_reader.specs.declared.reader.Stage.TheVariants as stage
use Rattle.tower_reader.specs.declared.table.Place.TheVariants as place
use Rattle.tower_reader.specs.declared.table.Row.TheVariants as row
use Rattle.tower_reader.specs.Spelled.{byte_limit}
use Rattle.tower_reader.specs.Machine.{firsts, Frame, IsFile, AllLean, bottom, run, clean, added_all}
use Rattle.tower_reader.specs.View.{frame_of, frames_of}
use Rattle.tower_reader.specs.Spelled.{Spells}
use Rattle.tower_reader.specs.Faults.{IsFault}
use Rattle.tower_reader.specs.Verdict.{fault_of, by_trees, by_tokens, outcome, verdict, Fails, Gives}
use Rattle.tower_reader.specs.Standing.{Reads, StandsBy, StandsFor}
use Rattle.tower_reader.proofs.Verdicts.{verdict_is}
use Rattle.tower_reader.specs.Reading.{offences_in, parts_of}
use Rattle.tower_reader.proofs.Kept.{found_kept}
use Rattle.tower_reader.proofs.Lean.{run_lean}
use Rattle.tower_reader.proofs.Nested.{run_nested}
use Rattle.tower_reader.proofs.Told.{file_alone}
use Rattle.tower_reader.proofs.Runs.{run_append, run_spelled, all_known}

pub reads_on : (r : Reader) (bs : List ℕ) → r.stage ≡ stage.Reads → StandsFor r bs → Reads r bs
unfolding StandsFor
reads_on r bs e h = subst (λ s. StandsBy s r bs) e h

pub reading : (r : Reader) (bs : List ℕ) → r.stage ≡ stage.Reads → Reads r bs → StandsFor r bs
unfolding StandsFor
reading r bs e h = subst (λ s. StandsBy s r bs) (sym e) h

pub is_long : (r : Reader) (bs : List ℕ) → r.stage ≡ stage.Long → StandsFor r bs → byte_limit < length bs
unfolding StandsFor
is_long r bs e h = subst (λ s. StandsBy s r bs) e h

pub long : (r : Reader) (bs : List ℕ) → r.stage ≡ stage.Long → byte_limit < length bs → StandsFor r bs
unfolding StandsFor
long r bs e h = subst (λ s. StandsBy s r bs) (sym e) h

pub never_failed : (r : Reader) (bs : List ℕ) → r.stage ≡ stage.Failed → StandsFor r bs → ⊥
unfolding StandsFor
never_failed r bs e h = subst (λ s. StandsBy s r bs) e h

-- no byte yet
pub begun : (r : Reader) → r.stage ≡ stage.Reads → LexerStandsFor r.lexer [] → frames_of r.lists ≡ bottom ∷ [] → count_unclosed r.lexer ≡ 0 → 0 < vec_capacity r.tokens → StandsFor r []
begun r e s f n o = reading r [] e (record { lexer = s; frames = f; nested = omega (arith, ap length f, n); few = omega (arith, n); lean = subst AllLean (sym f) (λ k. refl, tt); room = o; within = omega arith })

-- one byte more than the limit
pub overflows : (r q : Reader) (bs : List ℕ) (b n : ℕ) → r.stage ≡ stage.Reads → q.stage ≡ stage.Long → ((bs : List ℕ) → LexerStandsFor r.lexer bs → n ≡ length bs) → byte_limit ≤ n → StandsFor r bs → StandsFor q (bs ++ b ∷ [])
overflows r q bs b n e f t l h =
    let k : n ≡ length bs = t bs (reads_on r bs e h).lexer in
    long q (bs ++ b ∷ []) f (omega (arith, k, l, length-append bs (b ∷ [])))

-- tokens that make the lexer's list grow as the whole tokens of a text
grown : (bs : List ℕ) (old new ts : List Token) (fs gs : List Frame) → GrowsAlike old new (whole_tokens bs) ts → old ≡ [] → fs ≡ run (whole_tokens bs) (bottom ∷ []) → gs ≡ run new fs → gs ≡ run ts (bottom ∷ [])
grown bs old new ts fs gs g e f h =
    let n : new ≡ g.more = g.put ∙ ap (λ xs. xs ++ g.more) e in
    h ∙ ap (λ us. run us fs) n ∙ ap (run g.more) f ∙ sym (run_append (whole_tokens bs) g.more (bottom ∷ [])) ∙ ap (λ us. run us (bottom ∷ [])) (sym g.made)

-- one byte more within the limit
pub goes_on : (r q : Reader) (bs : List ℕ) (b n : ℕ) (old new : List Token) → r.stage ≡ stage.Reads → q.stage ≡ stage.Reads
    → ((bs : List ℕ) → LexerStandsFor r.lexer bs → n ≡ length bs) → n < byte_limit
    → ((bs : List ℕ) → LexerStandsFor r.lexer bs → LexerStandsFor q.lexer (bs ++ b ∷ []))
    → ((bs : List ℕ) → LexerStandsFor r.lexer bs → GrowsAlike old new (whole_tokens bs) (whole_tokens (bs ++ b ∷ [])))
    → old ≡ [] → frames_of q.lists ≡ run new (frames_of r.lists)
    → (count_unclosed r.lexer ≤ 256 → count_unclosed q.lexer ≤ 256)
    → (old ≡ [] → count_unclosed r.lexer ≤ 256 → count_unclosed q.lexer ≡ depth_behind (count_unclosed r.lexer) new)
    → vec_capacity r.tokens ≤ vec_capacity q.tokens
    → StandsFor r bs → StandsFor q (bs ++ b ∷ [])
goes_on r q bs b n old new e f t l s g o fs u d c h =
    let k : Reads r bs = reads_on r bs e h in
    let m : n ≡ length bs = t bs k.lexer in
    reading q (bs ++ b ∷ []) f (record {
      lexer = s bs k.lexer;
      frames = grown bs old new (whole_tokens (bs ++ b ∷ [])) (frames_of r.lists) (frames_of q.lists) (g bs k.lexer) o k.frames fs;
      nested = ap length fs ∙ run_nested new (frames_of r.lists) (count_unclosed r.lexer) k.nested ∙ ap (λ x. x + 1) (sym (d o k.few));
      few = u k.few;
      lean = subst AllLean (sym fs) (run_lean new (frames_of r.lists) k.lean);
      room = omega (arith, c, k.room);
      within = omega (arith, l, m, length-append bs (b ∷ []));
    })

-- what the frames of a text say is what its trees say
frames_say : (ts : Trees) → outcome (added_all ts bottom ∷ []) ≡ by_trees ts
frames_say ts = ap (λ f. outcome (f ∷ [])) (all_known ts place.Nowhere 0 row.File 0 [] clean) ∙ found_kept (firsts (offences_in row.File 0 ts)) (parts_of row.File 0 ts)

pub within_verdict : (bs : List ℕ) (o : Option SexpFault) → length bs ≤ byte_limit → first_fault (marks_of bs) ≡ o → verdict bs ≡ by_tokens o (trees_spelled (tokens_of bs))
within_verdict bs o l e =
    let k : nat_lt byte_limit (length bs) ≡ false = le-ltb _ _ l in
    ap (λ b. cond b (Err (fault.Long byte_limit)) (by_tokens (first_fault (marks_of bs)) (trees_spelled (tokens_of bs)))) k ∙ ap (λ o. by_tokens o (trees_spelled (tokens_of bs))) e

pub long_verdict : (bs : List ℕ) → byte_limit < length bs → verdict bs ≡ Err (fault.Long byte_limit)
long_verdict bs l =
    let k : nat_lt byte_limit (length bs) ≡ true = lt-ltb _ _ l in
    ap (λ b. cond b (Err (fault.Long byte_limit)) (by_tokens (first_fault (marks_of bs)) (trees_spelled (tokens_of bs)))) k

gives_token : (f : SexpFault) (v : Result (Raw Id) ReadFault) → (f ≢ token.NoMemory → v ≡ Err (fault_of f)) → Fails (fault_of f) v
gives_token (token.Byte at) v h = h (λ e. cc)
gives_token (token.Unopened at) v h = h (λ e. cc)
gives_token (token.Nest at) v h = h (λ e. cc)
gives_token (token.Unclosed at) v h = h (λ e. cc)
gives_token token.Empty v h = h (λ e. cc)
gives_token token.NoMemory v h = tt

pub token_verdict : (r : Reader) (bs : List ℕ) (f : SexpFault) → r.stage ≡ stage.Reads → StandsFor r bs → (f ≢ token.NoMemory → (bs : List ℕ) → LexerStandsFor r.lexer bs → IsTokenFault bs f) → Fails (fault_of f) (verdict bs)
token_verdict r bs f e h k = gives_token f (verdict bs) (λ n. let s = reads_on r bs e h in within_verdict bs (Some f) s.within (fault_is_computed bs f (k n bs s.lexer)))

-- a fault of the tokens is the verdict
pub token_told : (r : Reader) (bs : List ℕ) (f : SexpFault) (g : ReadFault) → r.stage ≡ stage.Reads → StandsFor r bs → (f ≢ token.NoMemory → (bs : List ℕ) → LexerStandsFor r.lexer bs → IsTokenFault bs f) → f ≢ token.NoMemory → verdict bs ≡ Err g → fault_of f ≡ g
token_told r bs f g e h k n v =
    let s = reads_on r bs e h in
    let w : verdict bs ≡ Err (fault_of f) = within_verdict bs (Some f) s.within (fault_is_computed bs f (k n bs s.lexer)) in
    cc

-- at the end of a text
pub end_verdict : (r : Reader) (bs : List ℕ) (old new : List Token) (gs : List Frame) → r.stage ≡ stage.Reads → StandsFor r bs
    → ((bs : List ℕ) → LexerStandsFor r.lexer bs → IsFaultless bs × GrowsAlike old new (whole_tokens bs) (tokens_of bs))
    → old ≡ [] → gs ≡ run new (frames_of r.lists) → verdict bs ≡ outcome gs
end_verdict r bs old new gs e h g o fs =
    let t : Reads r bs = reads_on r bs e h in
    let k = g bs t.lexer in
    let a : gs ≡ run (tokens_of bs) (bottom ∷ []) = grown bs old new (tokens_of bs) (frames_of r.lists) gs k.1 o t.frames fs in
    let b : run (tokens_of bs) (bottom ∷ []) ≡ added_all (trees_spelled (tokens_of bs)) bottom ∷ [] = run_spelled (faultless_spells bs k.0) bottom [] in
    within_verdict bs None t.within (faultless_is_computed bs k.0) ∙ sym (ap outcome (a ∙ b) ∙ frames_say (trees_spelled (tokens_of bs)))

-- and the innermost list there
pub end_file : (r : Reader) (bs : List ℕ) (old new : List Token) → r.stage ≡ stage.Reads → StandsFor r bs
    → ((bs : List ℕ) → LexerStandsFor r.lexer bs → IsFaultless bs × GrowsAlike old new (whole_tokens bs) (tokens_of bs))
    → old ≡ [] → EndsInAtom old new → IsFile (frame_of r.lists.top)
end_file r bs old new e h g o a =
    let t : Reads r bs = reads_on r bs e h in
    let k = g bs t.lexer in
    let b : run new (frames_of r.lists) ≡ run (tokens_of bs) (bottom ∷ []) = grown bs old new (tokens_of bs) (frames_of r.lists) (run new (frames_of r.lists)) k.1 o t.frames refl in
    let c : run (tokens_of bs) (bottom ∷ []) ≡ added_all (trees_spelled (tokens_of bs)) bottom ∷ [] = run_spelled (faultless_spells bs k.0) bottom [] in
    file_alone (whole_tokens bs) new (frame_of r.lists.top) _ _ t.frames (subst (λ ts. EndsInAtom ts new) o a) (b ∙ c)

-- the same of an answer
pub end_gives : (r : Reader) (bs : List ℕ) (old new : List Token) (gs : List Frame) (a : Result RawValue ReadFault) → r.stage ≡ stage.Reads → StandsFor r bs
    → ((bs : List ℕ) → LexerStandsFor r.lexer bs → IsFaultless bs × GrowsAlike old new (whole_tokens bs) (tokens_of bs))
    → old ≡ [] → gs ≡ run new (frames_of r.lists) → Gives a (outcome gs) → Gives a (verdict bs)
end_gives r bs old new gs a e h g o fs w = subst (Gives a) (sym (end_verdict r bs old new gs e h g o fs)) w

-- a text that is longer than the limit stays so
pub longer : (r : Reader) (bs front rest piece : List ℕ) → r.stage ≡ stage.Long → front ++ rest ≡ piece → StandsFor r (bs ++ front) → StandsFor r (bs ++ piece)
longer r bs front rest piece e p h =
    long r (bs ++ piece) e (omega (arith, is_long r (bs ++ front) e h, length-append bs front, length-append bs piece, length-append front rest, ap length p))

pub never_fails : (r : Reader) (bs : List ℕ) (f : ReadFault) → r.stage ≡ stage.Failed → StandsFor r bs → fault.NoMemory ≡ f
never_fails r bs f e h = absurd (never_failed r bs e h)

-- an answer that is the verdict tells the tree, or the fault
pub tells_tree : (self : Reader) (r : Result RawValue ReadFault) → ((bs : List ℕ) → StandsFor self bs → Gives r (verdict bs)) → IfOk r (λ raw. (bs : List ℕ) → StandsFor self bs → Spells bs (raw_of raw))
tells_tree self (Ok raw) h = λ bs s. verdict_is bs (Ok (raw_of raw)) (h bs s)
tells_tree self (Err f) h = tt

fails_is : (f : ReadFault) (v : Result (Raw Id) ReadFault) → f ≢ fault.NoMemory → Fails f v → v ≡ Err f
fails_is (fault.Long limit) v n h = h
fails_is (fault.Byte at) v n h = h
fails_is (fault.Unopened at) v n h = h
fails_is (fault.Nest at) v n h = h
fails_is (fault.Unclosed at) v n h = h
fails_is fault.Empty v n h = h
fails_is (fault.Form at) v n h = h
fails_is (fault.Number at) v n h = h
fails_is (fault.Length at) v n h = h
fails_is fault.NoMemory v n h = absurd (n refl)

pub tells_fault : (self : Reader) (r : Result RawValue ReadFault) → ((bs : List ℕ) → StandsFor self bs → Gives r (verdict bs)) → IfErr r (λ f. f ≢ fault.NoMemory → (bs : List ℕ) → StandsFor self bs → IsFault bs f)
tells_fault self (Ok raw) h = tt
tells_fault self (Err f) h = λ n bs s. verdict_is bs (Err f) (fails_is f (verdict bs) n (h bs s))
