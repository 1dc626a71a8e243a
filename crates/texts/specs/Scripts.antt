-- What a script says.
use Rattle.std.specs.Prelude.{ℕ, Bool, true, ◌&&◌, List, [], ◌∷◌, ◌++◌, codes, decimal, Result}
use Rattle.texts.specs.declared.refusal.Fault.{Fault}
use Rattle.texts.specs.declared.refusal.TextRefusal.{TextRefusal}
use Rattle.texts.specs.declared.field.CallWord.{CallWord}
use Rattle.texts.specs.declared.field.CallWord.TheVariants as words
use Rattle.texts.specs.declared.script.ScriptCall.{ScriptCall}
use Rattle.texts.specs.declared.script.ScriptCall.TheVariants.{Enter, Amend, Cancel, Advance}
use Rattle.texts.specs.FieldKinds.{number_field, is_number, firm_field, is_firm, side_field, side_text, kind_field, kind_text, call_word_field, unused_field}
use Rattle.texts.specs.Fields.{Reader, field, done, line}
use Rattle.texts.specs.Writing.{fields_text}
use Rattle.texts.specs.Texts.{value_lines, text_rows}

-- a field that the call does not use
abbrev pub unused : {X : Type 0} → Reader X → Reader X
unused more = field unused_field (λ _. more)

abbrev pub enter_fields : Reader ScriptCall
enter_fields =
    field number_field (λ number.
    field firm_field (λ firm.
    field side_field (λ side.
    field kind_field (λ kind.
    field number_field (λ limit.
    field number_field (λ shares.
    done (Enter (record { number = number; firm = firm; side = side; kind = kind; limit = limit; shares = shares }))))))))

abbrev pub amend_fields : Reader ScriptCall
amend_fields =
    field number_field (λ number.
    unused (unused (unused (
    field number_field (λ price.
    field number_field (λ shares.
    done (Amend number price shares)))))))

abbrev pub cancel_fields : Reader ScriptCall
cancel_fields = field number_field (λ number. unused (unused (unused (unused (unused (done (Cancel number)))))))

abbrev pub advance_fields : Reader ScriptCall
advance_fields = unused (unused (unused (unused (unused (unused (done Advance))))))

-- the fields behind the word
abbrev pub word_fields : CallWord → Reader ScriptCall
word_fields words.Enter = enter_fields
word_fields words.Amend = amend_fields
word_fields words.Cancel = cancel_fields
word_fields words.Advance = advance_fields

abbrev pub call_line : List ℕ → Result ScriptCall Fault
call_line = line (field call_word_field word_fields)

-- how a call is written
abbrev pub call_parts : ScriptCall → List (List ℕ)
call_parts (Enter e) = codes "enter" ∷ decimal e.number ∷ decimal e.firm ∷ side_text e.side ∷ kind_text e.kind ∷ decimal e.limit ∷ decimal e.shares ∷ []
call_parts (Amend number price shares) = codes "amend" ∷ decimal number ∷ codes "-" ∷ codes "-" ∷ codes "-" ∷ decimal price ∷ decimal shares ∷ []
call_parts (Cancel number) = codes "cancel" ∷ decimal number ∷ codes "-" ∷ codes "-" ∷ codes "-" ∷ codes "-" ∷ codes "-" ∷ []
call_parts Advance = codes "advance" ∷ codes "-" ∷ codes "-" ∷ codes "-" ∷ codes "-" ∷ codes "-" ∷ codes "-" ∷ []

abbrev pub call_text : ScriptCall → List ℕ
call_text c = fields_text (call_parts c)

-- its numbers are below 2^32, and its firm is at most 65,535
abbrev pub is_call : ScriptCall → Bool
is_call (Enter e) = is_number e.number && is_firm e.firm && is_number e.limit && is_number e.shares
is_call (Amend number price shares) = is_number number && is_number price && is_number shares
is_call (Cancel number) = is_number number
is_call Advance = true

-- the first line, with its LF
abbrev pub script_header : List ℕ
script_header = codes "call,number,firm,side,kind,price,shares" ++ 10 ∷ []

-- the bytes of a script's value lines, each of which is good or bad by itself
abbrev pub script_lines : List ℕ → Result (List ℕ) TextRefusal
script_lines bs = value_lines script_header 0 65535 bs

-- what each line of a script says, by itself, or where the text is refused
abbrev pub script : List ℕ → Result (List (Result ScriptCall TextRefusal)) TextRefusal
script bs = text_rows script_header call_line 0 65535 bs
