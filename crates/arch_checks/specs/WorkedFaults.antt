-- Texts with their first faults, by reading and by names, and texts without one. Each row is a text.
use Rattle.std.specs.Prelude.{◌<◌, ◌≤◌, ℕ, List, ◌∷◌, ◌++◌, length, replicate, codes}
use Rattle.tower_syntax.specs.Arch.{Arch}
use Rattle.arch_names.specs.declared.fault.Sort.TheVariants as sort
use Rattle.arch_checks.specs.declared.fault.Fault.{Fault}
use Rattle.arch_checks.specs.declared.fault.Fault.TheVariants as fault
use Rattle.arch_checks.specs.Offences.{IsSystem, Standing, Offends, types_kind, IsFault}

-- nothing offends in its reading, names and types: the text has a system
abbrev pub HasSystem : List ℕ → Type 0
HasSystem bs = (arch : Arch) × IsSystem bs arch × ((p : Standing) (f : Fault) → Offends bs p f → types_kind < p.kind)

-- whatever a text holds, above its limit it is told so; and blanks alone are no file
pub record WorkedLengths : Type 0 where
  pub long : (bs : List ℕ) → 1048576 < length bs → IsFault bs (fault.Long 1048576)
  pub blank : (n : ℕ) → n ≤ 1048576 → IsFault (replicate n 0x20) fault.Empty

pub record WorkedReadings : Type 0 where
  -- tokens
  pub unclosed : IsFault (codes "(tower a") (fault.Unclosed 0)
  pub unopened : IsFault (codes "(tower a))") (fault.Unopened 9)
  pub empty : IsFault (codes "") (fault.Empty)
  pub blanks : IsFault (codes " \t\r\n") (fault.Empty)
  -- a comment ends before LF alone
  pub comment_alone : IsFault (codes ";(tower a)") (fault.Empty)
  pub comment_past_return : IsFault (codes "(tower a ;\r)") (fault.Unclosed 0)
  pub comment_to_feed : HasSystem (codes "(tower a ; )\n)")
  pub byte : IsFault (codes "(tower " ++ 0xC3 ∷ 0xA9 ∷ codes ")") (fault.Byte 7)
  pub byte_in_a_comment : HasSystem (codes ";" ++ 0xC3 ∷ 0xA9 ∷ codes "\n(tower a)")
  -- forms and numbers
  pub form : IsFault (codes "(tower a (tick 1))") (fault.Form 9)
  pub no_children : IsFault (codes "(tower a ())") (fault.Form 9)
  pub list_as_head : IsFault (codes "((tower) a)") (fault.Form 0)
  pub no_fields : IsFault (codes "(tower a (record r))") (fault.Form 9)
  pub fields_without_name : IsFault (codes "(tower a (record (field f u8)))") (fault.Form 9)
  pub field_as_name : IsFault (codes "(tower a (record (field f u8) (field g u8)))") (fault.Form 17)
  pub number : IsFault (codes "(tower a (period p 99999999999999999999 1))") (fault.Number 19)
  pub letters_for_a_number : IsFault (codes "(tower a (init b c))") (fault.Number 17)
  pub minus_zero : IsFault (codes "(tower a (init b -0))") (fault.Number 17)
  pub zeros : IsFault (codes "(tower a (init b 00))") (fault.Number 17)
  pub plus : IsFault (codes "(tower a (init b +1))") (fault.Number 17)
  pub minus : IsFault (codes "(tower a (init b -))") (fault.Number 17)
  -- the words of forms are names, those of scalars none
  pub words_are_names : HasSystem (codes "(tower array (record then (field ix u8)) (init i7 1) (channel tower then))")
  pub scalar_is_none : IsFault (codes "(tower i8)") (fault.Form 7)
  pub other_scalar_is_none : IsFault (codes "(tower a (init u16 1))") (fault.Form 15)
  -- the length of a name, that of a field behind `get` too
  pub long_name : IsFault (codes "(tower aaaaaaaaaaaaaaaaaaaaaaaaaaaaaaaaaaaaaaaaaaaaaaaaaaaaaaaaaaaaaaaaa)") (fault.Length 7)
  pub name_of_64 : HasSystem (codes "(tower aaaaaaaaaaaaaaaaaaaaaaaaaaaaaaaaaaaaaaaaaaaaaaaaaaaaaaaaaaaaaaaa)")
  pub long_field : IsFault (codes "(tower t (monitor m (handler h i (callback v (set (get v aaaaaaaaaaaaaaaaaaaaaaaaaaaaaaaaaaaaaaaaaaaaaaaaaaaaaaaaaaaaaaaaa) true)))))") (fault.Length 57)
  -- kinds in their order, wherever they stand
  pub form_before_number : IsFault (codes "(tower a (init b 256) c)") (fault.Form 22)
  pub number_before_length : IsFault (codes "(tower aaaaaaaaaaaaaaaaaaaaaaaaaaaaaaaaaaaaaaaaaaaaaaaaaaaaaaaaaaaaaaaaa (init b 256))") (fault.Number 81)
  pub length_before_name : IsFault (codes "(tower t (output o c) (init aaaaaaaaaaaaaaaaaaaaaaaaaaaaaaaaaaaaaaaaaaaaaaaaaaaaaaaaaaaaaaaaa 1))") (fault.Length 28)

pub record WorkedNames : Type 0 where
  -- one set for the file, and others within
  pub twice : IsFault (codes "(tower t (signal a u8 1) (channel a u8) (monitor m (handler h zz (emitter e q 1) (callback v (emit e true)))))") (fault.Twice 34 17)
  pub first_of_three : IsFault (codes "(tower t (init a 1) (channel a u8) (init a 2))") (fault.Twice 29 15)
  pub handler_and_source : IsFault (codes "(tower t (init h 1) (monitor m (handler h h)))") (fault.Twice 40 15)
  pub sets_apart : HasSystem (codes "(tower h (init i 1) (monitor m (state m u8) (handler h i)))")
  pub two_fields : IsFault (codes "(tower t (record r (field f u8) (field g u8) (field f u8)))") (fault.Twice 52 26)
  pub two_states : IsFault (codes "(tower t (monitor m (state x u8) (state x u8)))") (fault.Twice 40 27)
  pub two_emitters : IsFault (codes "(tower t (channel c u8) (init i 1) (monitor m (handler h i (emitter e c 1) (emitter e c 2))))") (fault.Twice 84 68)
  -- a record's field names records before it alone
  pub later_record : IsFault (codes "(tower t (record r (field f s)) (record s (field g u8)))") (fault.Unknown 28)
  pub record_in_itself : IsFault (codes "(tower t (record r (field f (array 2 r))))") (fault.Unknown 37)
  pub field_of_a_channel : IsFault (codes "(tower t (channel c u8) (record r (field f c)))") (fault.Unknown 43)
  pub earlier_record : HasSystem (codes "(tower t (record r (field f u8)) (record s (field g r)) (signal k s 1))")
  -- kinds
  pub type_of_a_channel : IsFault (codes "(tower t (signal k c 1) (channel c u8))") (fault.Kind 19 sort.Record sort.Channel)
  pub output_of_a_source : IsFault (codes "(tower t (output o i) (init i 1))") (fault.Kind 19 sort.Channel sort.Source)
  pub emitter_of_a_record : IsFault (codes "(tower t (init i 1) (record r (field f u8)) (monitor m (handler h i (emitter e r 1))))") (fault.Kind 79 sort.Channel sort.Record)
  pub handler_on_a_monitor : IsFault (codes "(tower t (monitor m (handler h m)))") (fault.Kind 31 sort.SourceOrChannel sort.Monitor)
  pub handler_on_an_output : IsFault (codes "(tower t (monitor m (handler h o)) (output o c) (channel c u8))") (fault.Kind 31 sort.SourceOrChannel sort.Output)
  pub handler_on_a_handler : IsFault (codes "(tower t (monitor m (handler h h)))") (fault.Kind 31 sort.SourceOrChannel sort.Handler)
  -- scopes
  pub let_then_use : HasSystem (codes "(tower t (init i 1) (monitor m (state x u8) (handler h i (callback v (let a x) (set x a)))))")
  pub let_in_its_value : IsFault (codes "(tower t (init i 1) (monitor m (state x u8) (handler h i (callback v (let a a)))))") (fault.Unknown 76)
  pub callback_name_again : IsFault (codes "(tower t (init i 1) (monitor m (state x u8) (handler h i (callback v (let v zz)))))") (fault.Twice 74 67)
  pub behind_then : IsFault (codes "(tower t (init i 1) (monitor m (state x u8) (handler h i (callback v (if true (then (let a x)) (else (set x a)))))))") (fault.Unknown 108)
  pub behind_for : IsFault (codes "(tower t (init i 1) (monitor m (state x u8) (handler h i (callback v (for k 3 (let a x)) (set x (cast u8 k))))))") (fault.Unknown 105)
  pub for_in_for : IsFault (codes "(tower t (init i 1) (monitor m (state x u8) (handler h i (callback v (for k 3 (for k 2))))))") (fault.Twice 83 74)
  pub let_in_its_for : IsFault (codes "(tower t (init i 1) (monitor m (state x u8) (handler h i (callback v (for k 3 (let k true))))))") (fault.Twice 83 74)
  pub local_of_a_let : IsFault (codes "(tower t (init i 1) (monitor m (state x u8) (handler h i (callback v (let a true) (local a u8)))))") (fault.Twice 89 74)
  pub again_behind : HasSystem (codes "(tower t (init i 1) (monitor m (state x u8) (handler h i (callback v (if true (then (let a x)) (else (let a x))) (local a u8) (copy a x)))))")
  pub later_state : HasSystem (codes "(tower t (init i 1) (monitor m (handler h i (callback v (set x x))) (state x u8)))")
  pub shadows_a_later_state : IsFault (codes "(tower t (init i 1) (monitor m (handler h i (callback v (let x true))) (state x u8)))") (fault.Twice 61 78)
  pub callback_named_as_a_state : IsFault (codes "(tower t (init i 1) (monitor m (handler h i (callback x)) (state x u8) (state x u8)))") (fault.Twice 54 65)
  pub later_emitter : HasSystem (codes "(tower t (channel c i64) (init i 1) (monitor m (handler h i (callback v (emit e v)) (emitter e c 1))))")
  pub emit_of_a_channel : IsFault (codes "(tower t (channel e u8) (init i 1) (monitor m (handler h i (callback v (emit e v)))))") (fault.Unknown 77)
  pub get_is_passed_over : IsFault (codes "(tower t (init i 1) (monitor m (state x u8) (handler h i (callback v (set (at (get x zz) q) true)))))") (fault.Unknown 89)
  -- the least offset, and names before types
  pub unknown_first : IsFault (codes "(tower t (output o c) (init i 1) (init i 2))") (fault.Unknown 19)
  pub kind_first : IsFault (codes "(tower t (init i 1) (output o i) (init i 2))") (fault.Kind 30 sort.Channel sort.Source)
  pub name_before_type : IsFault (codes "(tower t (init i 1) (monitor m (state x u8) (handler h i (callback v (set x true))) (handler k zz)))") (fault.Unknown 95)
