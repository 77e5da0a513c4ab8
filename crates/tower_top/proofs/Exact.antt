-- Inputs whose text has one value or one fault, and requests that have one answer.
use Rattle.std.proofs.Common.{◌≡◌, ◌<◌, ℕ, List, [], inl, inr, ◌⊎◌, ⊎_elim, Option, Some, None, Bool, true, false, refl, sym, ap, subst, ◌∙◌, arith}
use Rattle.std.specs.Prelude.{IfSome, IsSome, bytes_eq}
use Rattle.std.proofs.lemmas.Bool.{false≢true}
use Rattle.tower_io.specs.Faults.{Rose}
use Rattle.tower_report.specs.Bytes.{Bytes}
use Rattle.tower_top.specs.declared.status.Status.{Status}
use Rattle.tower_top.specs.declared.status.Status.TheVariants.{Done, Refused, Usage, ReadFault, WriteFault, NoMemory, BadInput, Stopped, No}
use Rattle.tower_top.specs.Calls.{Held, IsHeld, ShelfTold, SinkTold, Change, Call, IsSame, HasRisen, Gets, GetsPart, FailsAt}
use Rattle.tower_top.specs.Requests.{Input, Request, no_command, reads, answers, HasRead, HasFault, IsDue, IsDueNow, TellsAll, IsAnswer, HasAnswer}
use Rattle.tower_top.specs.Endings.{Prospect, Answers, FailsToRead, FailsToWrite, LacksMemory, EndsAs, prospect, Ends}
use Rattle.tower_top.specs.Commands.{Command, choose, where_given, asked_of, asked_by}
use Rattle.tower_words.specs.Words.{Given, has_only}
use Rattle.tower_top.specs.Laws.{HasNoFault, Comes}

-- a text has at most one value, or else at most one fault
pub record IsExactInput (i : Input) : Type 0 where
  pub value : (text : List ℕ) (v w : i.Value) → i.IsValid text v → i.IsValid text w → v ≡ w
  pub fault : (text : List ℕ) (l m : Bytes) → i.IsWrong text l → i.IsWrong text m → l ≡ m
  pub never : (text : List ℕ) (v : i.Value) (l : Bytes) → i.IsValid text v → i.IsWrong text l → ⊥

abbrev pub IsExact : Request → Type 0
IsExact no_command = Unit {0}
IsExact (reads i next) = IsExactInput i × ((v : i.Value) → IsExact (next v))
IsExact (answers s text) = Unit {0}

-- two texts that are told are one
one_text : (o : Option (List ℕ)) (x y : List ℕ) → IsSome o → IfSome o (λ t. t ≡ x) → IfSome o (λ t. t ≡ y) → x ≡ y
one_text None x y some a b = absurd (false≢true some)
one_text (Some t) x y some a b = sym a ∙ b

module _ (held : Held) (i : Input) (is : IsExactInput i) (tells : IsSome (held i.name)) where
  one_value : (v w : i.Value) → HasRead held i v → HasRead held i w → v ≡ w
  one_value v w a b =
      is.value a.text v w a.valid (subst (λ t. i.IsValid t w) (one_text (held i.name) b.text a.text tells b.is_held a.is_held) b.valid)

  one_fault : (l m : Bytes) → HasFault held i l → HasFault held i m → l ≡ m
  one_fault l m a b =
      is.fault a.text l m a.wrong (subst (λ t. i.IsWrong t m) (one_text (held i.name) b.text a.text tells b.is_held a.is_held) b.wrong)

  not_both : (v : i.Value) (l : Bytes) → HasRead held i v → HasFault held i l → ⊥
  not_both v l a b =
      is.never a.text v l a.valid (subst (λ t. i.IsWrong t l) (one_text (held i.name) b.text a.text tells b.is_held a.is_held) b.wrong)

abbrev Same : Status → Status → Bytes → Bytes → Bytes → Bytes → Type 0
Same s t o p e f = (s ≡ t) × (o ≡ p) × (e ≡ f)

-- at most one answer is due
pub one_answer : (held : Held) (r : Request) → IsExact r → TellsAll held r → (s t : Status) (o p e f : Bytes) → IsDue held r s o e → IsDue held r t p f → Same s t o p e f
one_answer held no_command is tells s t o p e f a b = (a.0 ∙ sym b.0, a.1 ∙ sym b.1, a.2 ∙ sym b.2)
one_answer held (answers u x) is tells s t o p e f a b = (a.0 ∙ sym b.0, a.1 ∙ sym b.1, a.2 ∙ sym b.2)
one_answer held (reads i next) is tells s t o p e f (inl a) (inl b) = (a.0 ∙ sym b.0, a.1 ∙ sym b.1, one_fault held i is.0 tells.0 e f a.2 b.2)
one_answer held (reads i next) is tells s t o p e f (inl a) (inr b) = absurd (not_both held i is.0 tells.0 b.0 e b.1 a.2)
one_answer held (reads i next) is tells s t o p e f (inr a) (inl b) = absurd (not_both held i is.0 tells.0 a.0 f a.1 b.2)
one_answer held (reads i next) is tells s t o p e f (inr a) (inr b) =
    let P : i.Value → Type 0 = λ v. IsDue held (next v) t p f in
    one_answer held (next a.0) (is.1 a.0) (tells.1 a.0 a.1) s t o p e f a.2 (subst P (one_value held i is.0 tells.0 b.0 a.0 b.1 a.1) b.2)

-- where all inputs are valid, the answer is due
pub answer_is_due : (held : Held) (r : Request) (s : Status) (text : Bytes) → HasAnswer held r s text → IsDue held r s text []
answer_is_due held no_command s text has = absurd has
answer_is_due held (answers u x) s text has = (has.0, has.1, refl)
answer_is_due held (reads i next) s text (inl has) = absurd has
answer_is_due held (reads i next) s text (inr has) = inr (has.0, has.1, answer_is_due held (next has.0) s text has.2)

-- what is due comes
module _ (r : Request) (is : IsExact r) (call : Call) (tells : TellsAll call.shelf.before.held r) (calm : HasNoFault call) (s : Status) (out err : Bytes) (due : IsDue call.shelf.before.held r s out err) where
  comes_as : (status : Status) → Answers (prospect call.shelf.before.held r) call status → Comes call status s out err
  comes_as status a =
      let same = one_answer call.shelf.before.held r is tells status s a.out_text out a.err_text err a.due due in
      inl (same.0, subst (λ (x : Bytes). Gets call.out x) same.1 a.out_gets, subst (λ (x : Bytes). Gets call.err x) same.2 a.err_gets)

  due_comes : (status : Status) → EndsAs (prospect call.shelf.before.held r) call status → Comes call status s out err
  due_comes Done a = comes_as Done a
  due_comes Refused a = comes_as Refused a
  due_comes Usage a = comes_as Usage a
  due_comes BadInput a = comes_as BadInput a
  due_comes Stopped a = comes_as Stopped a
  due_comes No a = comes_as No a
  due_comes ReadFault a = absurd (calm.shelf a.fails.rose)
  due_comes WriteFault a = absurd (⊎_elim calm.out calm.err a.rose)
  due_comes NoMemory a = inr refl

  pub comes : (status : Status) → Ends r call status → Comes call status s out err
  comes status ends = due_comes status ends.ends

-- ---- commands

pub choose_exact : (b : Bool) (x y : Request) → IsExact x → IsExact y → IsExact (choose b x y)
choose_exact true x y hx hy = hx
choose_exact false x y hx hy = hy

pub where_given_exact : {A : Type 0} (o : Option A) (next : A → Request) → ((x : A) → IsExact (next x)) → IsExact (where_given o next)
where_given_exact None next h = tt
where_given_exact (Some x) next h = h x

pub asked_of_exact : (c : Command) (g : Given) → IsExact (c.request g) → IsExact (asked_of c g)
asked_of_exact c g h = choose_exact (has_only c.options g) (c.request g) no_command h tt

-- where the words name the command
pub asked_by_exact : (c : Command) (g : Given) (other : Request) → IsExact (c.request g) → IsExact other → IsExact (asked_by c g other)
asked_by_exact c g other h k = choose_exact (bytes_eq g.command c.name) (asked_of c g) other (asked_of_exact c g h) k
