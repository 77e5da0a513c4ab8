-- Runs of lines: what a program's lines make of what is known, and that lines which are taken are those of a program.
use Rattle.std.proofs.Common.{◌≡◌, ◌∙◌, ℕ, zero, suc, ◌+◌, ◌<◌, ◌≤◌, ◌^◌, List, [], ◌∷◌, ◌++◌, length, map, Bool, true, false, Some, None, Ok, Err, refl, sym, ap, arith, replicate, append_assoc, length-append}
use Rattle.std.specs.List.{join_with_byte}
use Rattle.std.proofs.lemmas.List.Splits.{join_with_byte-slice_split}
use Rattle.task_code.specs.Rules.{most_words}
use Rattle.task_listing.specs.declared.kind.Kind.{Kind}
use Rattle.task_listing.specs.declared.rules.Head.{Head}
use Rattle.task_listing.specs.Lines.{Bytes, words}
use Rattle.task_listing.specs.Numbers.{has_blank}
use Rattle.task_listing.specs.Spelling.{Word, natural, text, with_numbers}
use Rattle.task_listing.specs.Context.{Context}
use Rattle.task_listing.specs.Draft.{Draft}
use Rattle.task_listing.specs.Answers.{Answer, count_line}
use Rattle.task_listing.specs.Judging.{State, judge_kind, breaks_kind, next, next_kind, walk, marked, fault_in}
use Rattle.task_listing.proofs.Taken.{walk_step}
use Rattle.task_listing.proofs.Firsts.{walk_none, walked_marked, next_place}
use Rattle.task_listing.proofs.Spelled.{numbers_text, count_line_is}
use Rattle.task_listing.proofs.Backs.{decimal_unblank, count_line_back, AllSmall}
use Rattle.task_listing.proofs.Joined.{AreClean, AllClean, words_joined, AllNoLf, joined_no_lf, all_no_lf}

-- ---- one line

-- a line's words, with a blank between
abbrev pub spelled : List Word → Bytes
spelled ws = join_with_byte 32 (map text ws)

-- what is known behind lines, besides what is awaited, where no line broke a rule
pub record Known : Type 0 where
  pub monitors : List ℕ
  pub outputs : List ℕ
  pub head : Head
  pub words : ℕ
  pub instructions : ℕ
  pub draft : Draft

abbrev pub at : List Kind → Known → State
at ks s = record {
  context = record { awaits = ks; monitors = s.monitors; outputs = s.outputs; head = s.head; words = s.words; instructions = s.instructions };
  place = None;
  draft = s.draft;
}

-- the lines were all that was awaited, and none broke a rule
pub record IsWhole (t : State) : Type 0 where
  pub all : t.context.awaits ≡ []
  pub kept : t.place ≡ None

-- the first of lines is of the kind
pub record First (k : Kind) (c : Context) (ls : List Bytes) : Type 0 where
  pub here : List Bytes
  pub rest : List Bytes
  pub same : ls ≡ join_with_byte 32 here ∷ rest
  pub split : words (join_with_byte 32 here) ≡ here
  pub right : judge_kind k here ≡ None
  pub kept : breaks_kind k c here ≡ false

some_left : (k : Kind) (ks : List Kind) → (k ∷ ks) ≡ [] → ⊥
some_left k ks e = cc

pub first_of : (k : Kind) (ks : List Kind) (s : Known) (n : ℕ) (ls : List Bytes) (t : State) → walk (at (k ∷ ks) s) n ls ≡ Ok t → IsWhole t → First k (at ks s).context ls
first_of k ks s n [] t h w = let e : at (k ∷ ks) s ≡ t = cc in absurd (some_left k ks (ap (λ s. s.context.awaits) e ∙ w.all))
first_of k ks s n (l ∷ ls) t h w = record {
  here = words l;
  rest = ls;
  same = ap (λ l. l ∷ ls) (sym (join_with_byte-slice_split 32 l));
  split = ap words (join_with_byte-slice_split 32 l);
  right = two.0;
  kept = by (breaks_kind k (at ks s).context (words l)) refl;
}
  where
    two : (judge_kind k (words l) ≡ None) × (walk (next (at (k ∷ ks) s) n (words l)) (n + 1) ls ≡ Ok t)
    two = walk_none (at (k ∷ ks) s) n l ls t h

    by : (b : Bool) → breaks_kind k (at ks s).context (words l) ≡ b → breaks_kind k (at ks s).context (words l) ≡ false
    by false e = e
    by true e =
        let m : (next (at (k ∷ ks) s) n (words l)).place ≡ Some n = next_place (at (k ∷ ks) s) n l ∙ ap (λ b. marked None b n) e in
        let p : t.place ≡ Some n = walked_marked (next (at (k ∷ ks) s) n (words l)) (n + 1) ls t n two.1 m in
        let q : None ≡ Some n = sym w.kept ∙ p in
        cc

-- behind a line of the kind
pub line_on : (k : Kind) (ks : List Kind) (s : Known) (new : State) (n : ℕ) (ws rest : List Bytes) → words (join_with_byte 32 ws) ≡ ws → judge_kind k ws ≡ None → new ≡ next_kind k (at ks s) n ws → walk (at (k ∷ ks) s) n (join_with_byte 32 ws ∷ rest) ≡ walk new (n + 1) rest
line_on k ks s new n ws rest e h f = walk_step (at (k ∷ ks) s) new n (join_with_byte 32 ws) rest ws e h f

-- ---- items

pub record Begins {A : Type 0} (lines : A → List Bytes) (Fits : A → Type 0) (ls : List Bytes) : Type 0 where
  pub item : A
  pub rest : List Bytes
  pub fits : Fits item
  pub same : ls ≡ lines item ++ rest

-- A kind of item, which begins with a line of this kind: its lines; when it may stand behind what is known; what is known
-- behind it; that its lines are taken so; and that lines which are taken begin with those of an item.
pub record Block (k : Kind) (Item : Type 0) : Type 1 where
  pub lines : Item → List Bytes
  pub Fits : Known → Item → Type 0
  pub put : Item → Known → Known
  pub takes : (a : Item) (s : Known) (ks : List Kind) (n : ℕ) (rest : List Bytes) → Fits s a → walk (at (k ∷ ks) s) n (lines a ++ rest) ≡ walk (at ks (put a s)) (n + length (lines a)) rest
  pub clean : (s : Known) (a : Item) → Fits s a → AllNoLf (lines a)
  pub begins : (s : Known) (ks : List Kind) (n : ℕ) (ls : List Bytes) (t : State) → walk (at (k ∷ ks) s) n ls ≡ Ok t → IsWhole t → Begins lines (Fits s) ls

abbrev pub flat : {A : Type 0} → (A → List Bytes) → List A → List Bytes
flat f [] = []
flat f (x ∷ xs) = f x ++ flat f xs

-- behind items, one after another
abbrev pub puts : {A : Type 0} → (A → Known → Known) → List A → Known → Known
puts f [] s = s
puts f (a ∷ xs) s = puts f xs (f a s)

abbrev pub AllFit : {A : Type 0} → (A → Known → Known) → (Known → A → Type 0) → Known → List A → Type 0
AllFit f P s [] = Unit {0}
AllFit f P s (a ∷ xs) = P s a × AllFit f P (f a s) xs

pub many_on : {k : Kind} {A : Type 0} (b : Block k A) (xs : List A) (s : Known) (ks : List Kind) (n : ℕ) (rest : List Bytes) → AllFit b.put b.Fits s xs
    → walk (at (replicate (length xs) k ++ ks) s) n (flat b.lines xs ++ rest) ≡ walk (at ks (puts b.put xs s)) (n + length (flat b.lines xs)) rest
many_on b [] s ks n rest h = let e : n ≡ n + 0 = omega arith in ap (λ n. walk (at ks s) n rest) e
many_on {k} b (a ∷ xs) s ks n rest h =
    let e : n + length (b.lines a) + length (flat b.lines xs) ≡ n + length (b.lines a ++ flat b.lines xs) = omega (arith, length-append (b.lines a) (flat b.lines xs)) in
    ap (walk (at (k ∷ replicate (length xs) k ++ ks) s) n) (append_assoc (b.lines a) (flat b.lines xs) rest)
    ∙ b.takes a s (replicate (length xs) k ++ ks) n (flat b.lines xs ++ rest) h.0
    ∙ many_on b xs (b.put a s) ks (n + length (b.lines a)) rest h.1
    ∙ ap (λ n. walk (at ks (puts b.put xs (b.put a s))) n rest) e

pub many_clean : {k : Kind} {A : Type 0} (b : Block k A) (xs : List A) (s : Known) → AllFit b.put b.Fits s xs → AllNoLf (flat b.lines xs)
many_clean b [] s h = tt
many_clean b (a ∷ xs) s h = all_no_lf (b.lines a) (flat b.lines xs) (b.clean s a h.0) (many_clean b xs (b.put a s) h.1)

pub record Many {A : Type 0} (lines : A → List Bytes) (Fit : List A → Type 0) (many : ℕ) (ls : List Bytes) : Type 0 where
  pub items : List A
  pub rest : List Bytes
  pub count : length items ≡ many
  pub fit : Fit items
  pub same : ls ≡ flat lines items ++ rest

behind_one : {k : Kind} {A : Type 0} (b : Block k A) (s : Known) (ks : List Kind) (n : ℕ) (ls : List Bytes) (t : State) → walk (at (k ∷ ks) s) n ls ≡ Ok t → (x : Begins b.lines (b.Fits s) ls)
    → walk (at ks (b.put x.item s)) (n + length (b.lines x.item)) x.rest ≡ Ok t
behind_one {k} b s ks n ls t h x = sym (b.takes x.item s ks n x.rest x.fits) ∙ ap (walk (at (k ∷ ks) s) n) (sym x.same) ∙ h

one_more : {k : Kind} {A : Type 0} (b : Block k A) (many : ℕ) (s : Known) (ls : List Bytes) (x : Begins b.lines (b.Fits s) ls) → Many b.lines (AllFit b.put b.Fits (b.put x.item s)) many x.rest → Many b.lines (AllFit b.put b.Fits s) (suc many) ls
one_more b many s ls x y = record {
  items = x.item ∷ y.items;
  rest = y.rest;
  count = ap suc y.count;
  fit = (x.fits, y.fit);
  same = x.same ∙ ap (λ r. b.lines x.item ++ r) y.same ∙ sym (append_assoc (b.lines x.item) (flat b.lines y.items) y.rest);
}

pub many_of : {k : Kind} {A : Type 0} (b : Block k A) (many : ℕ) (s : Known) (ks : List Kind) (n : ℕ) (ls : List Bytes) (t : State) → walk (at (replicate many k ++ ks) s) n ls ≡ Ok t → IsWhole t
    → Many b.lines (AllFit b.put b.Fits s) many ls
many_of b zero s ks n ls t h w = record { items = []; rest = ls; count = refl; fit = tt; same = refl }
many_of {k} b (suc many) s ks n ls t h w =
    let x = b.begins s (replicate many k ++ ks) n ls t h w in
    one_more b many s ls x (many_of b many (b.put x.item s) ks (n + length (b.lines x.item)) x.rest t (behind_one b s (replicate many k ++ ks) n ls t h x) w)

-- behind the items that were taken
pub many_behind : {k : Kind} {A : Type 0} (b : Block k A) (many : ℕ) (s : Known) (ks : List Kind) (n : ℕ) (ls : List Bytes) (t : State) → walk (at (replicate many k ++ ks) s) n ls ≡ Ok t
    → (x : Many b.lines (AllFit b.put b.Fits s) many ls) → walk (at ks (puts b.put x.items s)) (n + length (flat b.lines x.items)) x.rest ≡ Ok t
many_behind {k} b many s ks n ls t h x =
    sym (many_on b x.items s ks n x.rest x.fit)
    ∙ ap (λ m. walk (at (replicate m k ++ ks) s) n (flat b.lines x.items ++ x.rest)) x.count
    ∙ ap (walk (at (replicate many k ++ ks) s) n) (sym x.same)
    ∙ h

-- ---- items that are counted

all_clean : (ns : List ℕ) → AllSmall ns → AllClean (map text (map natural ns))
all_clean [] h = tt
all_clean (n ∷ ns) h = (decimal_unblank n h.0, all_clean ns h.1)

-- a line of a word and numbers is split into these
pub numbers_clean : (head : Bytes) (ns : List ℕ) → has_blank head ≡ false → AllSmall ns → AreClean (numbers_text head ns)
numbers_clean head ns h s = (h, all_clean ns s)

pub numbers_split : (head : Bytes) (ns : List ℕ) → has_blank head ≡ false → AllSmall ns → words (join_with_byte 32 (numbers_text head ns)) ≡ numbers_text head ns
numbers_split head ns h s = words_joined (numbers_text head ns) (numbers_clean head ns h s)

-- a kind of line with a number, which calls for so many items
pub record Header (from k : Kind) (head : Bytes) : Type 0 where
  pub clean : has_blank head ≡ false
  pub judges : (ws : List Bytes) → judge_kind from ws ≡ fault_in (count_line head ws)
  pub calls : (m : ℕ) (ks : List Kind) (s : Known) (n : ℕ) → m < 2 ^ 64 → at (replicate m k ++ ks) s ≡ next_kind from (at ks s) n (numbers_text head (m ∷ []))

abbrev pub counted_lines : {A : Type 0} → Bytes → (A → List Bytes) → List A → List Bytes
counted_lines head lines xs = spelled (with_numbers head (length xs ∷ [])) ∷ flat lines xs

pub ok_of : {A : Type 0} (r : Answer A) → fault_in r ≡ None → (a : A) × (r ≡ Ok a)
ok_of (Ok a) h = (a, refl)
ok_of (Err k) h = cc

pub counted_on : {from k : Kind} {A : Type 0} {head : Bytes} (h : Header from k head) (b : Block k A) (xs : List A) (s : Known) (ks : List Kind) (n : ℕ) (rest : List Bytes) → length xs ≤ most_words → AllFit b.put b.Fits s xs
    → walk (at (from ∷ ks) s) n (counted_lines head b.lines xs ++ rest) ≡ walk (at ks (puts b.put xs s)) (n + length (counted_lines head b.lines xs)) rest
counted_on {from} {k} {A} {head} h b xs s ks n rest few fit =
    let small : length xs < 2 ^ 64 = omega (arith, few) in
    let e : n + 1 + length (flat b.lines xs) ≡ n + length (counted_lines head b.lines xs) = omega arith in
    line_on from ks s (at (replicate (length xs) k ++ ks) s) n (numbers_text head (length xs ∷ [])) (flat b.lines xs ++ rest) (numbers_split head (length xs ∷ []) h.clean (small, tt))
    (h.judges (numbers_text head (length xs ∷ [])) ∙ ap fault_in (count_line_back head (length xs) few)) (h.calls (length xs) ks s n small)
    ∙ many_on b xs s ks (n + 1) rest fit
    ∙ ap (λ n. walk (at ks (puts b.put xs s)) n rest) e

pub counted_clean : {from k : Kind} {A : Type 0} {head : Bytes} (h : Header from k head) (b : Block k A) (xs : List A) (s : Known) → length xs ≤ most_words → AllFit b.put b.Fits s xs → AllNoLf (counted_lines head b.lines xs)
counted_clean {from} {k} {A} {head} h b xs s few fit =
    (joined_no_lf (numbers_text head (length xs ∷ [])) (numbers_clean head (length xs ∷ []) h.clean (omega (arith, few), tt)), many_clean b xs s fit)

pub record Counted {A : Type 0} (head : Bytes) (lines : A → List Bytes) (Fit : List A → Type 0) (ls : List Bytes) : Type 0 where
  pub items : List A
  pub rest : List Bytes
  pub few : length items ≤ most_words
  pub fit : Fit items
  pub same : ls ≡ counted_lines head lines items ++ rest

pub counted_of : {from k : Kind} {A : Type 0} {head : Bytes} (h : Header from k head) (b : Block k A) (s : Known) (ks : List Kind) (n : ℕ) (ls : List Bytes) (t : State) → walk (at (from ∷ ks) s) n ls ≡ Ok t → IsWhole t
    → Counted head b.lines (AllFit b.put b.Fits s) ls
counted_of {from} {k} {A} {head} h b s ks n ls t e w =
    let f = first_of from ks s n ls t e w in
    let m = ok_of (count_line head f.here) (sym (h.judges f.here) ∙ f.right) in
    let c = count_line_is head f.here m.0 m.1 in
    let small : m.0 < 2 ^ 64 = omega (arith, c.0) in
    let new = h.calls m.0 ks s n small ∙ ap (next_kind from (at ks s) n) (sym c.1) in
    let g : walk (at (replicate m.0 k ++ ks) s) (n + 1) f.rest ≡ Ok t =
    sym (line_on from ks s (at (replicate m.0 k ++ ks) s) n f.here f.rest f.split f.right new) ∙ ap (walk (at (from ∷ ks) s) n) (sym f.same) ∙ e in
    let y = many_of b m.0 s ks (n + 1) f.rest t g w in
    let few : length y.items ≤ most_words = omega (arith, c.0, y.count) in
    record {
      items = y.items;
      rest = y.rest;
      few = few;
      fit = y.fit;
      same = f.same ∙ ap (λ ws. join_with_byte 32 ws ∷ f.rest) c.1 ∙ ap (λ m. spelled (with_numbers head (m ∷ [])) ∷ f.rest) (sym y.count) ∙ ap (λ r. spelled (with_numbers head (length y.items ∷ [])) ∷ r) y.same;
    }

pub counted_behind : {from k : Kind} {A : Type 0} {head : Bytes} (h : Header from k head) (b : Block k A) (s : Known) (ks : List Kind) (n : ℕ) (ls : List Bytes) (t : State) → walk (at (from ∷ ks) s) n ls ≡ Ok t
    → (x : Counted head b.lines (AllFit b.put b.Fits s) ls) → walk (at ks (puts b.put x.items s)) (n + length (counted_lines head b.lines x.items)) x.rest ≡ Ok t
counted_behind {from} h b s ks n ls t e x = sym (counted_on h b x.items s ks n x.rest x.few x.fit) ∙ ap (walk (at (from ∷ ks) s) n) (sym x.same) ∙ e
