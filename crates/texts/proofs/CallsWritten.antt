-- A line of a script reads what is written, and nothing else.
use Rattle.std.specs.Prelude.{◌≡◌, ℕ, ◌<◌, Bool, true, ◌&&◌, List, [], ◌∷◌, ◌++◌, length, drop, codes, decimal, refl}
use Rattle.std.proofs.Common.{sym, ap, subst, ◌∙◌, arith, length-append}
use Rattle.std.specs.List.{AllByRecursion}
use Rattle.std.proofs.lemmas.Bool.{and_from, and_parts}
use Rattle.market.specs.declared.row.Entry.{Entry}
use Rattle.texts.specs.declared.field.CallWord.{CallWord}
use Rattle.texts.specs.declared.field.CallWord.TheVariants as words
use Rattle.texts.specs.declared.field.Unused.{Unused}
use Rattle.texts.specs.FieldKinds.{number_field, is_number, firm_field, is_firm, any, side_field, side_text, kind_field, kind_text, call_word_field, call_word_text, unused_field, unused_text}
use Rattle.texts.specs.Fields.{Reader, field, AtAByte}
use Rattle.texts.specs.Writing.{plain, fields_text, one_line, Written}
use Rattle.texts.proofs.FieldsWritten.{numbers_written, plain_number, firm_number, side_written, kind_written, call_word_written, unused_written}
use Rattle.texts.proofs.Columns.{Inside, done_inside, field_inside, line_at}
use Rattle.texts.proofs.Spelling.{Spelled, Part, done_spelled, field_spelled, line_spelled, line_back, fields_line, line_end, some_part, last_part, comma_part, made_last, comma_made}
use Rattle.texts.specs.declared.script.ScriptCall.{ScriptCall}
use Rattle.texts.specs.declared.script.ScriptCall.TheVariants.{Enter, Amend, Cancel, Advance}
use Rattle.texts.specs.Scripts.{enter_fields, amend_fields, cancel_fields, advance_fields, word_fields, call_line, call_parts, call_text, is_call}

a_number : Written plain number_field decimal is_number
a_number = numbers_written plain_number

a_firm : Written plain firm_field decimal is_firm
a_firm = numbers_written firm_number

-- THE FIELDS OF EACH CALL

-- the call, and no more bytes
abbrev Whole : ScriptCall → ScriptCall → List ℕ → Type 0
Whole call c s = (c ≡ call) × (s ≡ [])

abbrev Number : (ℕ → ScriptCall → List ℕ → Type 0) → ScriptCall → List ℕ → Type 0
Number = Part decimal is_number

-- a field that the call does not use
abbrev Idle : (ScriptCall → List ℕ → Type 0) → ScriptCall → List ℕ → Type 0
Idle W = Part unused_text any (λ _. W)

abbrev EnterParts : ScriptCall → List ℕ → Type 0
EnterParts =
    Number (λ number.
    Part decimal is_firm (λ firm.
    Part side_text any (λ side.
    Part kind_text any (λ kind.
    Number (λ limit.
    Number (λ shares.
    Whole (Enter (record { number = number; firm = firm; side = side; kind = kind; limit = limit; shares = shares }))))))))

abbrev AmendParts : ScriptCall → List ℕ → Type 0
AmendParts = Number (λ number. Idle (Idle (Idle (Number (λ price. Number (λ shares. Whole (Amend number price shares)))))))

abbrev CancelParts : ScriptCall → List ℕ → Type 0
CancelParts = Number (λ number. Idle (Idle (Idle (Idle (Idle (Whole (Cancel number)))))))

abbrev AdvanceParts : ScriptCall → List ℕ → Type 0
AdvanceParts = Idle (Idle (Idle (Idle (Idle (Idle (Whole Advance))))))

enter_spelled : Spelled enter_fields EnterParts
enter_spelled =
    field_spelled a_number _ _ (λ number.
    field_spelled a_firm _ _ (λ firm.
    field_spelled side_written _ _ (λ side.
    field_spelled kind_written _ _ (λ kind.
    field_spelled a_number _ _ (λ limit.
    field_spelled a_number _ _ (λ shares.
    done_spelled _))))))

idle : {read : Reader ScriptCall} {W : ScriptCall → List ℕ → Type 0} → Spelled read W → Spelled (field unused_field (λ _. read)) (Idle W)
idle {read} {W} each = field_spelled unused_written (λ _. read) (λ _. W) (λ _. each)

amend_spelled : Spelled amend_fields AmendParts
amend_spelled = field_spelled a_number _ _ (λ number. idle (idle (idle (field_spelled a_number _ _ (λ price. field_spelled a_number _ _ (λ shares. done_spelled _))))))

cancel_spelled : Spelled cancel_fields CancelParts
cancel_spelled = field_spelled a_number _ _ (λ number. idle (idle (idle (idle (idle (done_spelled _))))))

advance_spelled : Spelled advance_fields AdvanceParts
advance_spelled = idle (idle (idle (idle (idle (idle (done_spelled _))))))

abbrev WordParts : CallWord → ScriptCall → List ℕ → Type 0
WordParts words.Enter = EnterParts
WordParts words.Amend = AmendParts
WordParts words.Cancel = CancelParts
WordParts words.Advance = AdvanceParts

word_spelled : (w : CallWord) → Spelled (word_fields w) (WordParts w)
word_spelled words.Enter = enter_spelled
word_spelled words.Amend = amend_spelled
word_spelled words.Cancel = cancel_spelled
word_spelled words.Advance = advance_spelled

abbrev CallParts : ScriptCall → List ℕ → Type 0
CallParts = Part call_word_text any WordParts

call_spelled : Spelled (field call_word_field word_fields) CallParts
call_spelled = field_spelled call_word_written word_fields WordParts word_spelled

-- WHAT IS READ

abbrev word_of : ScriptCall → CallWord
word_of (Enter e) = words.Enter
word_of (Amend number price shares) = words.Amend
word_of (Cancel number) = words.Cancel
word_of Advance = words.Advance

-- the fields behind the word
abbrev rest_text : ScriptCall → List ℕ
rest_text c = fields_text (drop 1 (call_parts c))

-- the word and the bytes behind it are those of the call
abbrev Said : CallWord → ScriptCall → List ℕ → Type 0
Said w c s = (word_of c ≡ w) × (is_call c ≡ true) × (s ≡ rest_text c) × (0 < length s)

-- six fields behind the word
module _ {F₁ F₂ F₃ F₄ F₅ F₆ : Type 0} {t₁ : F₁ → List ℕ} {t₂ : F₂ → List ℕ} {t₃ : F₃ → List ℕ} {t₄ : F₄ → List ℕ} {t₅ : F₅ → List ℕ} {t₆ : F₆ → List ℕ} {w₁ : F₁ → Bool} {w₂ : F₂ → Bool} {w₃ : F₃ → Bool} {w₄ : F₄ → Bool} {w₅ : F₅ → Bool} {w₆ : F₆ → Bool} {call : F₁ → F₂ → F₃ → F₄ → F₅ → F₆ → ScriptCall} {c : ScriptCall} {s : List ℕ} where
  six : (p : Part t₁ w₁ (λ x₁. Part t₂ w₂ (λ x₂. Part t₃ w₃ (λ x₃. Part t₄ w₄ (λ x₄. Part t₅ w₅ (λ x₅. Part t₆ w₆ (λ x₆. Whole (call x₁ x₂ x₃ x₄ x₅ x₆))))))) c s) → let p₂ = p.rest in let p₃ = p₂.rest in let p₄ = p₃.rest in let p₅ = p₄.rest in let p₆ = p₅.rest in (c ≡ call p.value p₂.value p₃.value p₄.value p₅.value p₆.value) × (s ≡ fields_text (t₁ p.value ∷ t₂ p₂.value ∷ t₃ p₃.value ∷ t₄ p₄.value ∷ t₅ p₅.value ∷ t₆ p₆.value ∷ []))
  six p =
      let p₂ = p.rest in
      let p₃ = p₂.rest in
      let p₄ = p₃.rest in
      let p₅ = p₄.rest in
      let p₆ = p₅.rest in
      let e₆ = last_part p₆ p₆.rest.1 in
      let e₅ = comma_part p₅ _ (some_part p₆) e₆ in
      let e₄ = comma_part p₄ _ (some_part p₅) e₅ in
      let e₃ = comma_part p₃ _ (some_part p₄) e₄ in
      let e₂ = comma_part p₂ _ (some_part p₃) e₃ in
      (p₆.rest.0, comma_part p _ (some_part p₂) e₂)

enter_said : (c : ScriptCall) (s : List ℕ) → EnterParts c s → Said words.Enter c s
enter_said c s p =
    let r = six p in
    let last = p.rest.rest.rest.rest in
    (rw r.0, rw r.0 (and_from _ _ (and_from _ _ (and_from _ _ p.fits p.rest.fits) last.fits) last.rest.fits), rw r.0 r.1, some_part p)

amend_said : (c : ScriptCall) (s : List ℕ) → AmendParts c s → Said words.Amend c s
amend_said c s p =
    let r = six p in
    let last = p.rest.rest.rest.rest in
    (rw r.0, rw r.0 (and_from _ _ (and_from _ _ p.fits last.fits) last.rest.fits), rw r.0 r.1, some_part p)

cancel_said : (c : ScriptCall) (s : List ℕ) → CancelParts c s → Said words.Cancel c s
cancel_said c s p = let r = six p in (rw r.0, rw r.0 p.fits, rw r.0 r.1, some_part p)

advance_said : (c : ScriptCall) (s : List ℕ) → AdvanceParts c s → Said words.Advance c s
advance_said c s p = let r = six p in (rw r.0, rw r.0, rw r.0 r.1, some_part p)

said : (w : CallWord) (c : ScriptCall) (s : List ℕ) → WordParts w c s → Said w c s
said words.Enter = enter_said
said words.Amend = amend_said
said words.Cancel = cancel_said
said words.Advance = advance_said

text_is : (c : ScriptCall) → call_word_text (word_of c) ++ 44 ∷ rest_text c ≡ call_text c
text_is (Enter e) = refl
text_is (Amend number price shares) = refl
text_is (Cancel number) = refl
text_is Advance = refl

call_read : (c : ScriptCall) (l : List ℕ) → CallParts c l → (is_call c ≡ true) × (l ≡ call_text c)
call_read c l p =
    let r = said p.value c p.after p.rest in
    (r.1, comma_part p _ r.3 r.2 ∙ ap (λ w. call_word_text w ++ 44 ∷ rest_text c) (sym r.0) ∙ text_is c)

-- WHAT IS WRITTEN

enter_fits : (e : Entry) → is_call (Enter e) ≡ true → (is_number e.number ≡ true) × (is_firm e.firm ≡ true) × (is_number e.limit ≡ true) × (is_number e.shares ≡ true)
enter_fits e ok =
    let a = and_parts (is_number e.number && is_firm e.firm && is_number e.limit) (is_number e.shares) ok in
    let b = and_parts (is_number e.number && is_firm e.firm) (is_number e.limit) a.0 in
    let c = and_parts (is_number e.number) (is_firm e.firm) b.0 in
    (c.0, c.1, b.1, a.1)

amend_fits : (number price shares : ℕ) → is_call (Amend number price shares) ≡ true → (is_number number ≡ true) × (is_number price ≡ true) × (is_number shares ≡ true)
amend_fits number price shares ok =
    let a = and_parts (is_number number && is_number price) (is_number shares) ok in
    let b = and_parts (is_number number) (is_number price) a.0 in
    (b.0, b.1, a.1)

some_bytes : (ys zs : List ℕ) (b : ℕ) → 0 < length (ys ++ b ∷ zs)
some_bytes ys zs b = simp length-append (omega arith)

unused : Unused
unused = record {}

idle_made : {W : ScriptCall → List ℕ → Type 0} {c : ScriptCall} (zs : List ℕ) → 0 < length zs → W c zs → Idle W c (codes "-" ++ 44 ∷ zs)
idle_made zs some rest = comma_made unused refl zs some rest

idle_last : {W : ScriptCall → List ℕ → Type 0} {c : ScriptCall} → W c [] → Idle W c (codes "-" ++ 10 ∷ [])
idle_last rest = made_last unused refl rest

made : (c : ScriptCall) → is_call c ≡ true → WordParts (word_of c) c (rest_text c)
made (Enter e) ok =
    let f = enter_fits e ok in
    comma_made e.number f.0 _ (some_bytes _ _ 44)
    (comma_made e.firm f.1 _ (some_bytes _ _ 44)
    (comma_made e.side refl _ (some_bytes _ _ 44)
    (comma_made e.kind refl _ (some_bytes _ _ 44)
    (comma_made e.limit f.2 _ (some_bytes _ _ 10)
    (made_last e.shares f.3 (refl, refl))))))
made (Amend number price shares) ok =
    let f = amend_fits number price shares ok in
    comma_made number f.0 _ (omega arith)
    (idle_made _ (omega arith) (idle_made _ (omega arith) (idle_made _ (some_bytes _ _ 44)
    (comma_made price f.1 _ (some_bytes _ _ 10)
    (made_last shares f.2 (refl, refl))))))
made (Cancel number) ok =
    comma_made number ok _ (omega arith)
    (idle_made _ (omega arith) (idle_made _ (omega arith) (idle_made _ (omega arith) (idle_made _ (omega arith) (idle_last (refl, refl))))))
made Advance ok =
    idle_made _ (omega arith) (idle_made _ (omega arith) (idle_made _ (omega arith) (idle_made _ (omega arith) (idle_made _ (omega arith) (idle_last (refl, refl))))))

some_rest : (c : ScriptCall) → is_call c ≡ true → 0 < length (rest_text c)
some_rest c ok = (said (word_of c) c (rest_text c) (made c ok)).3

call_made : (c : ScriptCall) → is_call c ≡ true → CallParts c (call_text c)
call_made c ok = subst (CallParts c) (text_is c) (comma_made (word_of c) refl (rest_text c) (some_rest c ok) (made c ok))

plainly : (c : ScriptCall) → is_call c ≡ true → AllByRecursion (λ f. plain f ≡ true) (call_parts c)
plainly (Enter e) ok =
    let f = enter_fits e ok in
    (refl, (a_number.shaped e.number f.0, (a_firm.shaped e.firm f.1, (side_written.shaped e.side refl, (kind_written.shaped e.kind refl, (a_number.shaped e.limit f.2, (a_number.shaped e.shares f.3, tt)))))))
plainly (Amend number price shares) ok =
    let f = amend_fits number price shares ok in
    (refl, (a_number.shaped number f.0, (refl, (refl, (refl, (a_number.shaped price f.1, (a_number.shaped shares f.2, tt)))))))
plainly (Cancel number) ok = (refl, (a_number.shaped number ok, (refl, (refl, (refl, (refl, (refl, tt)))))))
plainly Advance ok = (refl, (refl, (refl, (refl, (refl, (refl, (refl, tt)))))))

call_shaped : (c : ScriptCall) → is_call c ≡ true → one_line (call_text c) ≡ true
call_shaped c ok = fields_line (call_parts c) (plainly c ok)

pub call_written : Written one_line call_line call_text is_call
call_written = record {
  read = λ l c is. call_read c l (line_spelled (field call_word_field word_fields) CallParts call_spelled l c is);
  back = λ c ok. line_back (field call_word_field word_fields) CallParts call_spelled (call_text c) c (line_end (call_text c) (call_shaped c ok)) (call_made c ok);
  shaped = call_shaped;
}

-- WHERE FAULTS ARE

idle_inside : (read : Reader ScriptCall) → Inside read → Inside (field unused_field (λ _. read))
idle_inside read each = field_inside unused_field (λ _. read) (λ _. each)

enter_inside : Inside enter_fields
enter_inside =
    field_inside number_field _ (λ number.
    field_inside firm_field _ (λ firm.
    field_inside side_field _ (λ side.
    field_inside kind_field _ (λ kind.
    field_inside number_field _ (λ limit.
    field_inside number_field _ (λ shares.
    done_inside (Enter (record { number = number; firm = firm; side = side; kind = kind; limit = limit; shares = shares }))))))))

amend_inside : Inside amend_fields
amend_inside =
    field_inside number_field _ (λ number.
    idle_inside _ (idle_inside _ (idle_inside _ (
    field_inside number_field _ (λ price.
    field_inside number_field _ (λ shares.
    done_inside (Amend number price shares)))))))

cancel_inside : Inside cancel_fields
cancel_inside = field_inside number_field _ (λ number. idle_inside _ (idle_inside _ (idle_inside _ (idle_inside _ (idle_inside _ (done_inside (Cancel number)))))))

advance_inside : Inside advance_fields
advance_inside = idle_inside _ (idle_inside _ (idle_inside _ (idle_inside _ (idle_inside _ (idle_inside _ (done_inside Advance))))))

word_inside : (w : CallWord) → Inside (word_fields w)
word_inside words.Enter = enter_inside
word_inside words.Amend = amend_inside
word_inside words.Cancel = cancel_inside
word_inside words.Advance = advance_inside

pub call_placed : (l : List ℕ) → 0 < length l → AtAByte (length l) (call_line l)
call_placed = line_at (field call_word_field word_fields) (field_inside call_word_field word_fields word_inside)
