-- A line by itself is wrong in one of two ways.
use Rattle.std.proofs.Common.{◌≡◌, ℕ, List, [], ◌∷◌, Bool, true, false, cond, Option, Some, None, Ok, Err, refl, sym, ap, ◌∙◌}
use Rattle.std.specs.Prelude.{codes, bytes_eq}
use Rattle.tower_types.specs.declared.scalar.Scalar.{Scalar}
use Rattle.task_listing.specs.declared.fault.ListKind.{ListKind}
use Rattle.task_listing.specs.declared.fault.ListKind.TheVariants as fault
use Rattle.task_listing.specs.declared.kind.Kind.{Kind}
use Rattle.task_listing.specs.declared.kind.Kind.TheVariants as kind
use Rattle.task_listing.specs.Lines.{Bytes}
use Rattle.task_listing.specs.Numbers.{is_word, is_number}
use Rattle.task_listing.specs.Answers.{Answer, or_err, count_up_to, count, priority, any_number, operand, literal, unary_named, binary_named, scalar_named, index_type, type_of, type, number_in, worse, both, and_then, title_line, ending_line, count_line, buffer_line, task_line, plain_named, one_named, two_named, three_named, one_line, two_line, three_line, literal_line, cast_line, unary_line, binary_line, instr_line}
use Rattle.task_listing.specs.Judging.{judge_kind, fault_in}
use Rattle.task_listing.specs.Faults.{rank}

abbrev Low : {A : Type 0} → Answer A → Type 0
Low (Ok a) = Unit {0}
Low (Err k) = rank k ≡ 1

low_cond : {A : Type 0} (b : Bool) (r : Answer A) → Low r → Low (cond b r (Err fault.Line))
low_cond true r h = h
low_cond false r h = refl

low_either : {A : Type 0} (b : Bool) (r q : Answer A) → Low r → Low q → Low (cond b r q)
low_either true r q h g = h
low_either false r q h g = g

low_or : {A : Type 0} (k : ListKind) (o : Option A) → rank k ≡ 1 → Low (or_err k o)
low_or k None h = h
low_or k (Some a) h = record {}

low_number : {A : Type 0} (b : Bool) (a : A) → Low (cond b (Ok a) (Err fault.Number))
low_number true a = record {}
low_number false a = refl

low_any : {A : Type 0} (w : Bytes) (a : A) → Low (any_number w a)
low_any w a = low_cond (is_word w) (cond (is_number w) (Ok a) (Err fault.Number)) (low_number (is_number w) a)

low_count : (most : ℕ) (w : Bytes) → Low (count_up_to most w)
low_count most w = low_cond (is_word w) (or_err fault.Number (number_in 0 most w)) (low_or fault.Number (number_in 0 most w) refl)

low_worse : (k j : ListKind) → rank k ≡ 1 → rank j ≡ 1 → rank (worse k j) ≡ 1
low_worse fault.Number j h g = g
low_worse fault.Line j h g = h
low_worse fault.Long j h g = h
low_worse fault.Short j h g = h
low_worse fault.After j h g = h
low_worse fault.Place j h g = h
low_worse fault.Limit j h g = h

low_both : {A B : Type 0} (x : Answer A) (y : Answer B) → Low x → Low y → Low (both x y)
low_both (Ok a) (Ok b) h g = record {}
low_both (Ok a) (Err j) h g = g
low_both (Err k) (Ok b) h g = h
low_both (Err k) (Err j) h g = low_worse k j h g

low_then : {A B : Type 0} (x : Answer A) (f : A → Answer B) → Low x → ((a : A) → Low (f a)) → Low (and_then x f)
low_then (Ok a) f h g = g a
low_then (Err k) f h g = h

low_index : (w : Bytes) → Low (index_type w)
low_index [] = refl
low_index (a ∷ []) = refl
low_index (a ∷ b ∷ []) = refl
low_index (a ∷ b ∷ c ∷ rest) = low_cond _ _ (low_cond (is_word (a ∷ b ∷ c ∷ rest)) _ (low_or fault.Number _ refl))

low_type_of : (o : Option Scalar) (w : Bytes) → Low (type_of o w)
low_type_of (Some s) w = record {}
low_type_of None w = low_index w

low_type : (w : Bytes) → Low (type w)
low_type w = low_type_of (scalar_named w) w

low_named : {A B : Type 0} (o : Option A) (f : A → Answer B) → ((a : A) → Low (f a)) → Low (and_then (or_err fault.Line o) f)
low_named o f g = low_then (or_err fault.Line o) f (low_or fault.Line o refl) g

low_one : (w a : Bytes) → Low (one_line w a)
low_one w a = low_named (one_named w) _ (λ o. low_then (operand a) _ (low_any a _) (λ n. record {}))

low_two : (w a b : Bytes) → Low (two_line w a b)
low_two w a b = low_named (two_named w) _ (λ o. low_then (both (operand a) (operand b)) _ (low_both (operand a) (operand b) (low_any a _) (low_any b _)) (λ n. record {}))

low_three : (w a b c : Bytes) → Low (three_line w a b c)
low_three w a b c =
    low_named (three_named w) _
    (λ o. low_then (both (operand a) (both (operand b) (operand c))) _
    (low_both (operand a) (both (operand b) (operand c)) (low_any a _) (low_both (operand b) (operand c) (low_any b _) (low_any c _))) (λ n. record {}))

low_instr : (ws : List Bytes) → Low (instr_line ws)
low_instr [] = refl
low_instr (w ∷ []) = low_named (plain_named w) _ (λ o. record {})
low_instr (w ∷ a ∷ []) =
    low_either (bytes_eq w (codes "PUSH")) (literal_line a) _ (low_then (literal a) _ (low_any a _) (λ n. record {}))
    (low_either (bytes_eq w (codes "CAST")) (cast_line a) (one_line w a) (low_then (type a) _ (low_type a) (λ t. record {})) (low_one w a))
low_instr (w ∷ a ∷ b ∷ []) =
    low_either (bytes_eq w (codes "UN")) (unary_line a b) _ (low_named (unary_named a) _ (λ o. low_then (type b) _ (low_type b) (λ t. record {})))
    (low_either (bytes_eq w (codes "BIN")) (binary_line a b) (two_line w a b) (low_named (binary_named a) _ (λ o. low_then (type b) _ (low_type b) (λ t. record {}))) (low_two w a b))
low_instr (w ∷ a ∷ b ∷ c ∷ []) = low_three w a b c
low_instr (w ∷ a ∷ b ∷ c ∷ d ∷ ws) = refl

low_count_line : (head : Bytes) (ws : List Bytes) → Low (count_line head ws)
low_count_line head [] = refl
low_count_line head (a ∷ []) = refl
low_count_line head (a ∷ n ∷ []) = low_cond (bytes_eq a head) (count n) (low_count _ n)
low_count_line head (a ∷ n ∷ b ∷ ws) = refl

low_buffer : (ws : List Bytes) → Low (buffer_line ws)
low_buffer [] = refl
low_buffer (a ∷ []) = refl
low_buffer (a ∷ m ∷ []) = refl
low_buffer (a ∷ m ∷ n ∷ []) = low_cond (bytes_eq a (codes "buffer")) _ (low_both (count m) (count n) (low_count _ m) (low_count _ n))
low_buffer (a ∷ m ∷ n ∷ b ∷ ws) = refl

low_task : (ws : List Bytes) → Low (task_line ws)
low_task [] = refl
low_task (a ∷ []) = refl
low_task (a ∷ p ∷ []) = refl
low_task (a ∷ p ∷ m ∷ []) = refl
low_task (a ∷ p ∷ m ∷ r ∷ []) = refl
low_task (a ∷ p ∷ m ∷ r ∷ b ∷ []) = refl
low_task (a ∷ p ∷ m ∷ r ∷ b ∷ c ∷ []) =
    low_cond (bytes_eq a (codes "task")) _
    (low_both (priority p) (both (both (count m) (count r)) (both (count b) (count c))) (low_count _ p)
    (low_both (both (count m) (count r)) (both (count b) (count c)) (low_both (count m) (count r) (low_count _ m) (low_count _ r)) (low_both (count b) (count c) (low_count _ b) (low_count _ c))))
low_task (a ∷ p ∷ m ∷ r ∷ b ∷ c ∷ x ∷ ws) = refl

low_fault : {A : Type 0} (r : Answer A) (j : ListKind) → Low r → fault_in r ≡ Some j → rank j ≡ 1
low_fault (Ok a) j h e = cc
low_fault (Err k) j h e = let f : k ≡ j = cc in ap rank (sym f) ∙ h

only_line : (j : ListKind) → Some fault.Line ≡ Some j → rank j ≡ 1
only_line j e = let f : fault.Line ≡ j = cc in ap rank (sym f)

line_or : (b : Bool) (j : ListKind) → cond b None (Some fault.Line) ≡ Some j → rank j ≡ 1
line_or true j e = cc
line_or false j e = only_line j e

title_ranks : (ws : List Bytes) (j : ListKind) → title_line ws ≡ Some j → rank j ≡ 1
title_ranks [] j e = only_line j e
title_ranks (a ∷ []) j e = only_line j e
title_ranks (a ∷ b ∷ []) j e = line_or _ j e
title_ranks (a ∷ b ∷ c ∷ ws) j e = only_line j e

ending_ranks : (ws : List Bytes) (j : ListKind) → ending_line ws ≡ Some j → rank j ≡ 1
ending_ranks [] j e = only_line j e
ending_ranks (a ∷ []) j e = line_or _ j e
ending_ranks (a ∷ b ∷ ws) j e = only_line j e

pub kind_ranks : (k : Kind) (ws : List Bytes) (j : ListKind) → judge_kind k ws ≡ Some j → rank j ≡ 1
kind_ranks kind.Title ws j e = title_ranks ws j e
kind_ranks kind.Monitors ws j e = low_fault (count_line (codes "monitors") ws) j (low_count_line _ ws) e
kind_ranks kind.Monitor ws j e = low_fault (count_line (codes "monitor") ws) j (low_count_line _ ws) e
kind_ranks kind.Outputs ws j e = low_fault (count_line (codes "outputs") ws) j (low_count_line _ ws) e
kind_ranks kind.Output ws j e = low_fault (count_line (codes "output") ws) j (low_count_line _ ws) e
kind_ranks kind.Tasks ws j e = low_fault (count_line (codes "tasks") ws) j (low_count_line _ ws) e
kind_ranks kind.Task ws j e = low_fault (task_line ws) j (low_task ws) e
kind_ranks kind.Buffer ws j e = low_fault (buffer_line ws) j (low_buffer ws) e
kind_ranks kind.Instruction ws j e = low_fault (instr_line ws) j (low_instr ws) e
kind_ranks kind.Ending ws j e = ending_ranks ws j e
