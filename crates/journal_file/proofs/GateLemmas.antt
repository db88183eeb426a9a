-- What a crash leaves of a text with a gate behind it.
use Rattle.std.proofs.Common.{◌≡◌, ◌≢◌, ◌⊎◌, inl, inr, ⊎_elim, ℕ, zero, suc, ◌+◌, ◌-◌, ◌≤◌, min, max, Bool, true, false, List, [], ◌∷◌, ◌++◌, length, get_or, take, drop, refl, sym, ◌∙◌, ap, subst, arith, append_assoc, length-append, length-drop, take-append-drop}
use Rattle.std.specs.Prelude.{Result, Ok, Err, OnOk}
use Rattle.std.proofs.lemmas.Bool.{cases_Bool, cases_eq, eqb-true}
use Rattle.std.proofs.lemmas.Bool.Decides.{nat_tests}
use Rattle.std.proofs.lemmas.List.{take_at, drop_at, drop_more, take_all, drop_all, append-nil}
use Rattle.kept_file.specs.Crashes.{LeavesThis, Overwrites, OverwritesOrNot, Replaces, TornCut, TornWrite}
use Rattle.journal_file.specs.declared.journal.Journal.{Journal}
use Rattle.journal_file.specs.Gates.{Begins, IsSettled, KeepsText, KeepsBeforeOrAfter, KeepsOneOf, at_rest, is_batch, is_shut, text_of}

-- what follows from what holds of a success
pub on_ok : {T E P Q : Type 0} (r : Result T E) → (P → Q) → OnOk r P → OnOk r Q
on_ok (Ok t) f p = f p
on_ok (Err e) f p = tt

shut_front : (n : ℕ) (bytes : List ℕ) → is_shut bytes ≡ true → is_shut (take n bytes) ≡ true
shut_front zero bytes shut = refl
shut_front (suc n) [] shut = refl
shut_front (suc n) (gate ∷ []) shut = ap (λ (l : List ℕ). is_shut (gate ∷ l)) (take_all n [] (omega arith))
shut_front (suc zero) (gate ∷ b ∷ bytes) shut = refl
shut_front (suc (suc n)) (gate ∷ b ∷ bytes) shut = shut

shut_short : (bytes : List ℕ) → length bytes ≤ 1 → is_shut bytes ≡ true
shut_short [] short = refl
shut_short (b ∷ []) short = refl
shut_short (b ∷ c ∷ bytes) short = absurd (omega (arith, short))

shut_closed : (bytes : List ℕ) → is_shut (10 ∷ bytes) ≡ true
shut_closed [] = refl
shut_closed (b ∷ bytes) = refl

take_past : (xs ys : List ℕ) (m n : ℕ) → m ≡ length xs + n → take m (xs ++ ys) ≡ xs ++ take n ys
take_past [] ys m n is = let same : m ≡ n = omega (arith, is) in ap (λ (k : ℕ). take k ys) same
take_past (x ∷ xs) ys zero n is = absurd (omega (arith, is))
take_past (x ∷ xs) ys (suc m) n is = ap (λ (l : List ℕ). x ∷ l) (take_past xs ys m n (omega (arith, is)))

module _ (text : List ℕ) (len : ℕ) (size : length text ≡ len) where
  -- a file that keeps a text, cut behind it
  pub keeps_cut : (file c : List ℕ) → KeepsText text file → TornCut len file c → KeepsText text c
  keeps_cut file c keeps cut =
      let behind = keeps.behind in
      let long : length file ≡ len + length behind = ap length keeps.split ∙ length-append text behind ∙ ap (λ n. n + length behind) size in
      let n = length c - len in
      let whole : c ≡ text ++ take n behind =
      cut.front ∙ ap (λ (l : List ℕ). take (length c) l) keeps.split
      ∙ take_past text behind (length c) n (omega (arith, cut.no_shorter, long, size)) in
      record { behind = take n behind; split = whole; shut = shut_front n behind keeps.shut }

  pub cut_text : (file : List ℕ) → KeepsText text file → take len file ≡ text
  cut_text file keeps = ap (λ (l : List ℕ). take len l) keeps.split ∙ take_at text keeps.behind len size

  -- one byte at the end of the text
  pub keeps_end : (n : ℕ) (c : List ℕ) → n ≡ 1 → TornWrite len n text c → KeepsText text c
  keeps_end n c one torn =
      let front : take len c ≡ text = torn.before ∙ take_all len text (omega (arith, size)) in
      let whole : c ≡ text ++ drop len c = sym (take-append-drop len c) ∙ ap (λ (l : List ℕ). l ++ drop len c) front in
      record {
        behind = drop len c;
        split = whole;
        shut = shut_short (drop len c) (omega (arith, length-drop len c, size, torn.no_longer, one));
      }

  pub closed_end : (new : List ℕ) → Overwrites text len (10 ∷ []) new → new ≡ at_rest text
  closed_end new over =
      over
      ∙ ap (λ (l : List ℕ). l ++ (10 ∷ []) ++ drop (len + 1) text) (take_all len text (omega (arith, size)))
      ∙ ap (λ (l : List ℕ). text ++ (10 ∷ []) ++ l) (drop_all (len + 1) text (omega (arith, size)))
      ∙ append-nil (at_rest text)

  -- whatever stands behind a closed gate
  pub keeps_behind : (c : List ℕ) → Begins (at_rest text) c → KeepsText text c
  keeps_behind c (more, split) =
      record { behind = 10 ∷ more; split = split ∙ append_assoc text (10 ∷ []) more; shut = shut_closed more }

  pub rest_size : length (at_rest text) ≡ len + 1
  rest_size = length-append text (10 ∷ []) ∙ ap (λ n. n + 1) size

  -- a batch behind the gate, and the file once it is open
  module _ (gate b : ℕ) (rest : List ℕ) (is_open : gate ≡ 64) where
    abbrev batch : List ℕ
    batch = gate ∷ b ∷ rest

    abbrev staged : List ℕ
    staged = at_rest text ++ at_rest (b ∷ rest)

    split_gate : staged ≡ text ++ 10 ∷ at_rest (b ∷ rest)
    split_gate = append_assoc text (10 ∷ []) (at_rest (b ∷ rest))

    staged_front : take len staged ≡ text
    staged_front = ap (λ (l : List ℕ). take len l) split_gate ∙ take_at text (10 ∷ at_rest (b ∷ rest)) len size

    staged_back : drop (len + 1) staged ≡ at_rest (b ∷ rest)
    staged_back = drop_at (at_rest text) (at_rest (b ∷ rest)) (len + 1) rest_size

    staged_size : len + 1 ≤ length staged
    staged_size = omega (arith, length-append (at_rest text) (at_rest (b ∷ rest)), rest_size)

    with_gate : (g : ℕ) → text ++ g ∷ at_rest (b ∷ rest) ≡ (text ++ g ∷ b ∷ rest) ++ 10 ∷ []
    with_gate g = sym (append_assoc text (g ∷ b ∷ rest) (10 ∷ []))

    any_gate : (g : ℕ) (c : List ℕ) → c ≡ text ++ g ∷ at_rest (b ∷ rest) → KeepsBeforeOrAfter text batch c
    any_gate g c is = elim (cases_eq g gate) [
      | inl same ↦ inr (record {
        behind = 10 ∷ [];
        split = is ∙ with_gate g ∙ ap (λ h. (text ++ h ∷ b ∷ rest) ++ 10 ∷ []) same;
        shut = refl;
      })
      | inr other ↦ inl (record {
        behind = g ∷ at_rest (b ∷ rest);
        split = is;
        shut = grind (arith, nat_tests);
      })
    ]

    -- the gate in front of a batch that is on the disk
    pub keeps_gate : (n : ℕ) (c : List ℕ) → n ≡ 1 → TornWrite len n staged c → KeepsBeforeOrAfter text batch c
    keeps_gate n c one torn =
        let g = get_or c len 0 in
        let after : drop (len + 1) c ≡ at_rest (b ∷ rest) =
        ap (λ m. drop (len + m) c) (sym one) ∙ torn.after ∙ ap (λ m. drop (len + m) staged) one ∙ staged_back in
        let rest_is : drop len c ≡ g ∷ at_rest (b ∷ rest) =
        drop_more c len 0 (omega (arith, torn.no_shorter, staged_size)) ∙ ap (λ (l : List ℕ). g ∷ l) after in
        any_gate g c (sym (take-append-drop len c)
        ∙ ap (λ (l : List ℕ). l ++ drop len c) (torn.before ∙ staged_front)
        ∙ ap (λ (l : List ℕ). text ++ l) rest_is)

    pub opened_gate : (new : List ℕ) → Overwrites staged len (64 ∷ []) new → new ≡ at_rest (text ++ batch)
    opened_gate new over =
        over
        ∙ ap (λ (l : List ℕ). l ++ (64 ∷ []) ++ drop (len + 1) staged) staged_front
        ∙ ap (λ (l : List ℕ). text ++ (64 ∷ []) ++ l) staged_back
        ∙ append_assoc text (64 ∷ []) (at_rest (b ∷ rest))
        ∙ with_gate 64
        ∙ ap (λ g. (text ++ g ∷ b ∷ rest) ++ 10 ∷ []) (sym is_open)

-- ---- what stands in front of a place that is written

take_take : (m n : ℕ) (xs : List ℕ) → m ≤ n → take m (take n xs) ≡ take m xs
take_take zero n xs le = refl
take_take (suc m) zero xs le = absurd (omega (arith, le))
take_take (suc m) (suc n) [] le = refl
take_take (suc m) (suc n) (x ∷ xs) le = ap (λ (l : List ℕ). x ∷ l) (take_take m n xs (omega (arith, le)))

pub begins_itself : (front : List ℕ) → Begins front front
begins_itself front = ([], sym (append-nil front))

pub torn_begins : (front : List ℕ) (at n : ℕ) → length front ≤ at → (d c : List ℕ) → Begins front d → TornWrite at n d c → Begins front c
torn_begins front at n within d c (more, split) torn =
    let size = length front in
    let fronts : take size c ≡ front =
    sym (take_take size at c within) ∙ ap (λ (l : List ℕ). take size l) torn.before ∙ take_take size at d within
    ∙ ap (λ (l : List ℕ). take size l) split ∙ take_at front more size refl in
    (drop size c, sym (take-append-drop size c) ∙ ap (λ (l : List ℕ). l ++ drop size c) fronts)

-- ---- the same of a batch

pub gate_torn : (text : List ℕ) (len : ℕ) → length text ≡ len → (batch c : List ℕ) → is_batch batch ≡ true
    → TornWrite len 1 (at_rest text ++ at_rest (drop 1 batch)) c → KeepsBeforeOrAfter text batch c
gate_torn text len size [] c is torn = absurd cc
gate_torn text len size (gate ∷ []) c is torn = absurd cc
gate_torn text len size (gate ∷ b ∷ rest) c is torn =
    keeps_gate text len size gate b rest (eqb-true gate 64 is) 1 c refl torn

pub gate_opened : (text : List ℕ) (len : ℕ) → length text ≡ len → (batch new : List ℕ) → is_batch batch ≡ true
    → Overwrites (at_rest text ++ at_rest (drop 1 batch)) len (64 ∷ []) new → new ≡ at_rest (text ++ batch)
gate_opened text len size [] new is over = absurd cc
gate_opened text len size (gate ∷ []) new is over = absurd cc
gate_opened text len size (gate ∷ b ∷ rest) new is over =
    opened_gate text len size gate b rest (eqb-true gate 64 is) new over

pub batch_size : (batch : List ℕ) → is_batch batch ≡ true → 2 ≤ length batch
batch_size [] is = absurd cc
batch_size (gate ∷ []) is = absurd cc
batch_size (gate ∷ b ∷ rest) is = omega arith

-- ---- a journal that stands between two batches

pub text_at_rest : (text file : List ℕ) (len : ℕ) → length text ≡ len → file ≡ at_rest text → take len file ≡ text
text_at_rest text file len size is = ap (λ (l : List ℕ). take len l) is ∙ take_at text (10 ∷ []) len size

pub settled : {F : Type 0} (seen : F → List ℕ) (may_leave : F → List ℕ → Type 0) (j : Journal F) (text : List ℕ)
    → seen j.file ≡ at_rest text → length text ≡ j.len → LeavesThis (seen j.file) (may_leave j.file)
    → IsSettled seen may_leave j × (text_of seen j ≡ text)
settled seen may_leave j text rest size kept =
    let is : text_of seen j ≡ text = text_at_rest text (seen j.file) j.len size rest in
    (record { rest = rest ∙ ap at_rest (sym is); len = ap length is ∙ size; kept = kept }, is)

-- ---- a text that is replaced

pub rest_keeps : (text : List ℕ) → KeepsText text (at_rest text)
rest_keeps text = record { behind = 10 ∷ []; split = refl; shut = refl }

pub one_of : (text other old bytes c : List ℕ) → old ≡ at_rest text → bytes ≡ at_rest other → Replaces bytes old c → KeepsOneOf text other c
one_of text other old bytes c was is step = ⊎_elim
    (λ same. inl (subst (KeepsText text) (sym (same ∙ was)) (rest_keeps text)))
    (λ new. inr (subst (KeepsText other) (sym (new ∙ is)) (rest_keeps other))) step

replaced_size : (text : List ℕ) → length (at_rest text) ≡ length text + 1
replaced_size text = length-append text (10 ∷ [])

-- the text of a file at rest
pub replaced_text : (text bytes : List ℕ) → bytes ≡ at_rest text → take (length bytes - 1) bytes ≡ text
replaced_text text bytes is =
    let size : length bytes - 1 ≡ length text = omega (arith, ap length is, replaced_size text) in
    ap (λ n. take n bytes) size ∙ ap (λ (l : List ℕ). take (length text) l) is ∙ take_at text (10 ∷ []) (length text) refl

-- one that was put there is ready
pub replaced_settled : {F : Type 0} (seen : F → List ℕ) (may_leave : F → List ℕ → Type 0) (journal : Journal F) (text bytes : List ℕ)
    → bytes ≡ at_rest text → seen journal.file ≡ bytes → journal.len ≡ length bytes - 1 → LeavesThis (seen journal.file) (may_leave journal.file)
    → IsSettled seen may_leave journal × (text_of seen journal ≡ text)
replaced_settled seen may_leave journal text bytes is put len kept =
    let same : text_of seen journal ≡ text = ap (λ n. take n (seen journal.file)) len ∙ ap (λ (l : List ℕ). take (length bytes - 1) l) put ∙ replaced_text text bytes is in (
      record {
        rest = put ∙ is ∙ ap at_rest (sym same);
        len = ap length same ∙ omega (arith, ap length is, replaced_size text, len);
        kept = kept;
      },
      same,
    )

-- one that stayed is ready
pub stayed_settled : {F : Type 0} (seen : F → List ℕ) (may_leave : F → List ℕ → Type 0) (old new : Journal F) → IsSettled seen may_leave old
    → seen new.file ≡ seen old.file → new.len ≡ old.len → LeavesThis (seen new.file) (may_leave new.file)
    → IsSettled seen may_leave new × (text_of seen new ≡ text_of seen old)
stayed_settled seen may_leave old new settled same len kept =
    let text : text_of seen new ≡ text_of seen old = ap (λ n. take n (seen new.file)) len ∙ ap (λ (l : List ℕ). take old.len l) same in (
      record {
        rest = same ∙ settled.rest ∙ ap at_rest (sym text);
        len = ap length text ∙ settled.len ∙ sym len;
        kept = kept;
      },
      text,
    )

-- ---- a batch that is put whole

-- behind a text at rest it leaves both at rest
whole_put : (text old batch new : List ℕ) (len : ℕ) → length text ≡ len → old ≡ at_rest text
    → Overwrites old len (batch ++ 10 ∷ []) new → new ≡ at_rest (text ++ batch)
whole_put text old batch new len size rest over =
    let bytes = batch ++ 10 ∷ [] in
    let past : length old ≤ len + length bytes = omega (arith, ap length rest, rest_size text len size, length-append batch (10 ∷ [])) in
    over
    ∙ ap (λ (l : List ℕ). l ++ bytes ++ drop (len + length bytes) old) (text_at_rest text old len size rest)
    ∙ ap (λ (l : List ℕ). text ++ bytes ++ l) (drop_all (len + length bytes) old past)
    ∙ append-nil (text ++ bytes)
    ∙ sym (append_assoc text batch (10 ∷ []))

-- a crash leaves the text, or the text with the batch
pub whole_or_not : (text old batch : List ℕ) (len : ℕ) → length text ≡ len → old ≡ at_rest text
    → (c : List ℕ) → OverwritesOrNot len (batch ++ 10 ∷ []) old c → KeepsBeforeOrAfter text batch c
whole_or_not text old batch len size rest c step = ⊎_elim
    (λ same. inl (subst (KeepsText text) (sym (same ∙ rest)) (rest_keeps text)))
    (λ over. inr (subst (KeepsText (text ++ batch)) (sym (whole_put text old batch c len size rest over)) (rest_keeps (text ++ batch)))) step
