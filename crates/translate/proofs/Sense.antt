-- Demand 3: two translated books of one kind have equal texts exactly when their senses are equal. What is left out of the sense of a translated book
-- is what is skipped, and nothing else. The law of the CFA, of the lines of a book's sense.
-- A kind adds one case to `text_by`, `next_by`, `ok_by` and `judged_by_lem`.
use Rattle.std.specs.Prelude.{◌↔◌, ◌≡◌, cond, ℕ, zero, suc, ◌+◌, ◌-◌, ◌*◌, ◌<◌, Option, Ok, length, take, pos, ltb, eqb}
use Rattle.std.proofs.Math.Path.{refl, sym, ap}
use Rattle.std.proofs.Common.{◌∙◌, arith}
use mathlib.Core.List.{List, [], ◌∷◌, ◌++◌, append-nil, append_assoc, reverse, reverse_aux}
use Rattle.std.proofs.Math.Bool.{Bool, true, false}
use Rattle.std.proofs.Math.ListN.{drop}
use Rattle.std.proofs.Math.Seq.{take-append_seam}
use Rattle.std.proofs.Math.Dec.{T}
use Rattle.text.specs.Text.{ascii}
use Rattle.text.specs.Tests.{all, all_append, either}
use Rattle.lines.specs.Lines.{Line, register_plus, rule, cfa, init, line_ok, render}
use Rattle.lines.specs.Lines.Laws.{render_append}
use Rattle.lines.specs.Read.{read}
use Rattle.lines.specs.Read.Laws.{read_render, render_injective}
use Rattle.refusal.specs.Refusal.{answer_number}
use Rattle.entry.specs.declared.Fate.TheVariants.{Skip, Write}
use Rattle.entry.specs.declared.Last.{Last}
use Rattle.entry.specs.Entry.{Entry, Judged, no_last, word}
use Rattle.book.specs.Book.{kind, count, body, bodies, contents_ok}
use Rattle.book.specs.Book.Laws.{bodies_at}
use Rattle.x64.specs.declared.Op.{Op}
use Rattle.x64.specs.X64.{chain, set_count, x64_skipped, x64_judged, x64_entry}
use Rattle.x64.specs.Sense.{op_rules, pushes, allocations, machine_frames, error_codes, ra_rules, sums, x64_line, x64_lines}
use Rattle.x64.proofs.Sense.{x64_accepted, x64_entry_text, x64_entry_ok, cfa_law}
use Rattle.arm64.specs.Arm64.{arm_skipped, arm_judged, arm_entry}
use Rattle.arm64.specs.Sense.{arm_lines}
use Rattle.arm64.proofs.Sense.{arm_accepted, arm_entry_text, arm_entry_ok}
use Rattle.dwarf.specs.Dwarf.{dwarf_skipped, dwarf_judged, dwarf_entry}
use Rattle.dwarf.specs.Sense.{dwarf_lines}
use Rattle.dwarf.proofs.Sense.{dwarf_accepted, dwarf_entry_text, dwarf_entry_ok}
use Rattle.pdb.specs.Pdb.{pdb_skipped, pdb_judged, pdb_entry}
use Rattle.pdb.specs.Sense.{last_unskipped, pdb_lines}
use Rattle.pdb.specs.Sense.Laws.{pdb_accepted, pdb_entry_text, pdb_entry_next, pdb_entry_ok}
use Rattle.translate.specs.declared.Returned.{Returned}
use Rattle.translate.specs.Outcome.{AREA, MOST_LIMIT, entry_of, verdict, Walked, onward, walk, walk_of, Outcome, refused, ran, outcome, Called}
use Rattle.translate.specs.Sense.{skipped, lines_of, sense_from, sense, unskipped, six_spaces, text_of}

-- ---- what each kind shows of an entry that is not refused, behind the bodies ds, latest first

-- what the walk of the text hands on, where the kind is 2, 3, 4 or another
abbrev handed : Bool → Bool → Bool → List (List ℕ) → Option Last
handed t u v ds = cond t no_last (cond u no_last (cond v (last_unskipped ds) no_last))

-- by the book's kind
abbrev left : ℕ → List (List ℕ) → Option Last
left k ds = handed (eqb k 2) (eqb k 3) (eqb k 4) ds

-- one of four, by kind
abbrev chosen : {A : Type 0} → Bool → Bool → Bool → A → A → A → A → A
chosen t u v arm dwarf pdb x64 = cond t arm (cond u dwarf (cond v pdb x64))

-- the entry in question
abbrev entry : ℕ → ℕ → List (List ℕ) → List ℕ → Entry
entry k l ds b = entry_of k l (left k ds) b

-- how it is judged
judged_of : ℕ → ℕ → List (List ℕ) → List ℕ → Judged
judged_of k l ds b = chosen (eqb k 2) (eqb k 3) (eqb k 4) (arm_judged b) (dwarf_judged b) (pdb_judged (last_unskipped ds) b) (x64_judged l b)

module _ (l : ℕ) (ds : List (List ℕ)) (b : List ℕ) where
  -- the entry, by kind
  abbrev an_entry : Bool → Bool → Bool → Entry
  an_entry t u v = chosen t u v (arm_entry (handed t u v ds) b) (dwarf_entry (handed t u v ds) b) (pdb_entry (handed t u v ds) b) (x64_entry l (handed t u v ds) b)

  -- whether it is skipped
  abbrev is_skipped : Bool → Bool → Bool → Bool
  is_skipped t u v = chosen t u v (arm_skipped b) (dwarf_skipped b) (pdb_skipped (last_unskipped ds) b) (x64_skipped l b)

  -- its lines
  abbrev some_lines : Bool → Bool → Bool → List Line
  some_lines t u v = chosen t u v (arm_lines b) (dwarf_lines b) (pdb_lines b) (x64_lines b)

  text_by : (t u v : Bool) → (an_entry t u v).number ≡ 0 → (an_entry t u v).text ≡ render t (cond (is_skipped t u v) [] (some_lines t u v))
  text_by true u v = arm_entry_text no_last b
  text_by false true v = dwarf_entry_text no_last b
  text_by false false true = pdb_entry_text (last_unskipped ds) b
  text_by false false false = x64_entry_text l no_last b

  same : (t : Bool) → cond t no_last no_last ≡ no_last
  same true = refl
  same false = refl

  next_by : (t u v : Bool) → (an_entry t u v).number ≡ 0 → (an_entry t u v).next ≡ handed t u v (b ∷ ds)
  unfolding arm_entry dwarf_entry x64_entry
  next_by true u v e = (arm_accepted no_last b e).next_is ∙ same (arm_skipped b)
  next_by false true v e = (dwarf_accepted no_last b e).next_is ∙ same (dwarf_skipped b)
  next_by false false true e = pdb_entry_next ds b e
  next_by false false false e = (x64_accepted l no_last b e).next_is ∙ same (x64_skipped l b)

  ok_by : (t u v : Bool) → (an_entry t u v).number ≡ 0 → T (all line_ok (some_lines t u v))
  ok_by true u v e = arm_entry_ok b
  ok_by false true v e = dwarf_entry_ok b
  ok_by false false true e = pdb_entry_ok (last_unskipped ds) b e
  ok_by false false false e = x64_entry_ok b

  judged_by_lem : (t u v : Bool) → (an_entry t u v).number ≡ 0
      → chosen t u v (arm_judged b) (dwarf_judged b) (pdb_judged (last_unskipped ds) b) (x64_judged l b) ≡ cond (is_skipped t u v) (Ok Skip) (Ok Write)
  judged_by_lem true u v e = (arm_accepted no_last b e).judged_is
  judged_by_lem false true v e = (dwarf_accepted no_last b e).judged_is
  judged_by_lem false false true e = (pdb_accepted (last_unskipped ds) b e).judged_is
  judged_by_lem false false false e = (x64_accepted l no_last b e).judged_is

module _ (k l : ℕ) (ds : List (List ℕ)) (b : List ℕ) (e : (entry k l ds b).number ≡ 0) where
  entry_text : (entry k l ds b).text ≡ render (six_spaces k) (cond (skipped k l ds b) [] (lines_of k b))
  unfolding entry_of skipped lines_of six_spaces
  entry_text = text_by l ds b (eqb k 2) (eqb k 3) (eqb k 4) e

  entry_next : (entry k l ds b).next ≡ left k (b ∷ ds)
  unfolding entry_of
  entry_next = next_by l ds b (eqb k 2) (eqb k 3) (eqb k 4) e

  entry_ok : T (all line_ok (cond (skipped k l ds b) [] (lines_of k b)))
  unfolding entry_of lines_of
  entry_ok = either (all line_ok) (skipped k l ds b) [] (lines_of k b) tt (ok_by l ds b (eqb k 2) (eqb k 3) (eqb k 4) e)

  entry_judged : judged_of k l ds b ≡ cond (skipped k l ds b) (Ok Skip) (Ok Write)
  unfolding entry_of skipped judged_of
  entry_judged = judged_by_lem l ds b (eqb k 2) (eqb k 3) (eqb k 4) e

-- ---- a walk that ends with 0 has refused no entry

verdict_none : (n room used size : ℕ) → verdict n room used size ≡ 0 → n ≡ 0
unfolding verdict
verdict_none zero room used size h = refl
verdict_none (suc n) room used size h = absurd (omega arith)

onward_none : (n done : ℕ) (acc : List ℕ) (o : Walked) → (onward n done acc o).number ≡ 0 → (n ≡ 0) × (onward n done acc o ≡ o)
onward_none zero done acc o h = (refl, refl)
onward_none (suc n) done acc o h = absurd (omega arith)

module _ (k l room : ℕ) where
  -- the walk behind the bodies ds
  abbrev going : List (List ℕ) → List (List ℕ) → ℕ → List ℕ → Walked
  going ds bs done acc = walk k l room (left k ds) bs done acc

  walk_on : (ds : List (List ℕ)) (b : List ℕ) (bs : List (List ℕ)) (done : ℕ) (acc : List ℕ) → (going ds (b ∷ bs) done acc).number ≡ 0
      → ((entry k l ds b).number ≡ 0) × (going ds (b ∷ bs) done acc ≡ going (b ∷ ds) bs (suc done) (acc ++ (entry k l ds b).text))
  unfolding walk
  walk_on ds b bs done acc h =
      let e : Entry = entry k l ds b in
      let o = onward_none (verdict e.number room (length acc) (length e.text)) done acc (walk k l room e.next bs (suc done) (acc ++ e.text)) h in
      let z : e.number ≡ 0 = verdict_none e.number room (length acc) (length e.text) o.0 in
      (z, o.1 ∙ ap (λ (s : Option Last). walk k l room s bs (suc done) (acc ++ e.text)) (entry_next k l ds b z))

  -- so what holds of every entry that is not refused holds of all
  walk_all : (P : List (List ℕ) → List (List ℕ) → Type 0) → ((ds : List (List ℕ)) → P ds [])
      → ((ds : List (List ℕ)) (b : List ℕ) (bs : List (List ℕ)) → (entry k l ds b).number ≡ 0 → P (b ∷ ds) bs → P ds (b ∷ bs))
      → (ds bs : List (List ℕ)) (done : ℕ) (acc : List ℕ) → (going ds bs done acc).number ≡ 0 → P ds bs
  walk_all P none more ds [] done acc h = none ds
  walk_all P none more ds (b ∷ bs) done acc h =
      let w = walk_on ds b bs done acc h in
      more ds b bs w.0 (walk_all P none more (b ∷ ds) bs (suc done) (acc ++ (entry k l ds b).text) (sym (ap (λ (o : Walked). o.number) w.1) ∙ h))

  -- and the text is the sense, rendered
  walked : (ds bs : List (List ℕ)) (done : ℕ) (acc : List ℕ) → (going ds bs done acc).number ≡ 0
      → (going ds bs done acc).text ≡ acc ++ render (six_spaces k) (sense_from k l ds bs)
  unfolding walk sense_from render
  walked ds [] done acc h = sym (append-nil acc)
  walked ds (b ∷ bs) done acc h =
      let e : Entry = entry k l ds b in
      let six : Bool = six_spaces k in
      let w = walk_on ds b bs done acc h in
      let g : (going (b ∷ ds) bs (suc done) (acc ++ e.text)).number ≡ 0 = sym (ap (λ (o : Walked). o.number) w.1) ∙ h in
      ap (λ (o : Walked). o.text) w.1
      ∙ walked (b ∷ ds) bs (suc done) (acc ++ e.text) g
      ∙ append_assoc acc e.text (render six (sense_from k l (b ∷ ds) bs))
      ∙ rw (render_append six (cond (skipped k l ds b) [] (lines_of k b)) (sense_from k l (b ∷ ds) bs), entry_text k l ds b w.0) refl

-- ---- the text of a translated book is its sense, rendered

-- a call that returns 0 has run over all entries
translated : (b : List ℕ) (l : ℕ) (w t : List ℕ) → (outcome b l w t).number ≡ 0 → outcome b l w t ≡ ran (walk_of b l (length t)) w t
unfolding outcome
translated b l w t = go (ltb (length w) AREA) (ltb MOST_LIMIT l) (contents_ok b)
  where
    go : (x y z : Bool) → (cond x (refused 1 w t) (cond y (refused 2 w t) (cond z (ran (walk_of b l (length t)) w t) (refused 3 w t)))).number ≡ 0
        → cond x (refused 1 w t) (cond y (refused 2 w t) (cond z (ran (walk_of b l (length t)) w t) (refused 3 w t))) ≡ ran (walk_of b l (length t)) w t
    go true y z e = absurd (omega arith)
    go false true z e = absurd (omega arith)
    go false false true e = refl
    go false false false e = absurd (omega arith)

-- each of these bodies is judged to be written, but for those that are skipped; ds come before them, latest first
Judges : ℕ → ℕ → List (List ℕ) → List (List ℕ) → Type 0
Judges k l ds [] = Unit {0}
Judges k l ds (b ∷ bs) = (judged_of k l ds b ≡ cond (skipped k l ds b) (Ok Skip) (Ok Write)) × Judges k l (b ∷ ds) bs

judged_at : (k l : ℕ) (ds xs : List (List ℕ)) (x : List ℕ) (ys : List (List ℕ)) → Judges k l ds (xs ++ (x ∷ ys))
    → judged_of k l (reverse_aux xs ds) x ≡ cond (skipped k l (reverse_aux xs ds) x) (Ok Skip) (Ok Write)
unfolding Judges
judged_at k l ds [] x ys j = j.0
judged_at k l ds (y ∷ xs) x ys j = judged_at k l (y ∷ ds) xs x ys j.1

-- every book that is translated
module _ (b : List ℕ) (l : ℕ) (w t : List ℕ) (h : (outcome b l w t).number ≡ 0) where
  -- before the first entry nothing is left to it
  first : left (kind b) [] ≡ no_last
  unfolding last_unskipped
  first = go (eqb (kind b) 2) (eqb (kind b) 3) (eqb (kind b) 4)
    where
      go : (x y z : Bool) → handed x y z [] ≡ no_last
      go true y z = refl
      go false true z = refl
      go false false true = refl
      go false false false = refl

  starts : walk_of b l (length t) ≡ going (kind b) l (length t) [] (bodies b) 0 []
  unfolding walk_of
  starts = ap (λ (s : Option Last). walk (kind b) l (length t) s (bodies b) 0 []) (sym first)

  none_refused : (going (kind b) l (length t) [] (bodies b) 0 []).number ≡ 0
  none_refused = sym (ap (λ (o : Walked). o.number) starts) ∙ sym (ap (λ (o : Outcome). o.number) (translated b l w t h)) ∙ h

  pub text_is : text_of (outcome b l w t) ≡ render (six_spaces (kind b)) (sense b l)
  unfolding sense
  text_is =
      ap text_of (translated b l w t h)
      ∙ take-append_seam (walk_of b l (length t)).text _
      ∙ ap (λ (o : Walked). o.text) starts
      ∙ walked (kind b) l (length t) [] (bodies b) 0 [] none_refused

  pub sense_ok : T (all line_ok (sense b l))
  unfolding sense sense_from
  sense_ok = walk_all (kind b) l (length t) (λ ds bs. T (all line_ok (sense_from (kind b) l ds bs))) (λ ds. tt)
      (λ ds x xs e k. all_append line_ok (cond (skipped (kind b) l ds x) [] (lines_of (kind b) x)) _ (entry_ok (kind b) l ds x e) k) [] (bodies b) 0 [] none_refused

  -- a translated book's text, read, is its sense
  pub text_read : read (text_of (outcome b l w t)) ≡ sense b l
  text_read = ap read text_is ∙ read_render (six_spaces (kind b)) (sense b l) sense_ok

  judges : Judges (kind b) l [] (bodies b)
  unfolding Judges
  judges = walk_all (kind b) l (length t) (λ ds bs. Judges (kind b) l ds bs) (λ ds. tt) (λ ds x xs e k. (entry_judged (kind b) l ds x e, k)) [] (bodies b) 0 [] none_refused

  -- every body that is not skipped is judged to be written: nothing but skipping keeps a body out of the sense, and out of the text
  pub only_skipped : (i : ℕ) → i < count b → skipped (kind b) l (reverse (take i (bodies b))) (body b i) ≡ false
      → (kind b ≡ 1 → x64_judged l (body b i) ≡ Ok Write)
      × (kind b ≡ 2 → arm_judged (body b i) ≡ Ok Write)
      × (kind b ≡ 3 → dwarf_judged (body b i) ≡ Ok Write)
      × (kind b ≡ 4 → pdb_judged (last_unskipped (reverse (take i (bodies b)))) (body b i) ≡ Ok Write)
  unfolding judged_of
  only_skipped i h s =
      let j : Judges (kind b) l [] (take i (bodies b) ++ (body b i ∷ drop (suc i) (bodies b))) = rw (bodies_at b i h) at judges in
      let e : judged_of (kind b) l (reverse (take i (bodies b))) (body b i) ≡ Ok Write
      = judged_at (kind b) l [] (take i (bodies b)) (body b i) (drop (suc i) (bodies b)) j ∙ rw s refl in
      (λ k. rw k at e, λ k. rw k at e, λ k. rw k at e, λ k. rw k at e)

-- ---- demand 3

-- any two books of one kind, limits, work areas and text buffers, and whatever stood in these
pub same_text_same_sense : (b₁ : List ℕ) (l₁ : ℕ) (w₁ t₁ b₂ : List ℕ) (l₂ : ℕ) (w₂ t₂ : List ℕ) → kind b₁ ≡ kind b₂
    → (outcome b₁ l₁ w₁ t₁).number ≡ 0 → (outcome b₂ l₂ w₂ t₂).number ≡ 0
    → (text_of (outcome b₁ l₁ w₁ t₁) ≡ text_of (outcome b₂ l₂ w₂ t₂)) ↔ (sense b₁ l₁ ≡ sense b₂ l₂)
same_text_same_sense b₁ l₁ w₁ t₁ b₂ l₂ w₂ t₂ k h₁ h₂ =
    let e₁ : text_of (outcome b₁ l₁ w₁ t₁) ≡ render (six_spaces (kind b₂)) (sense b₁ l₁) =
    text_is b₁ l₁ w₁ t₁ h₁ ∙ ap (λ (n : ℕ). render (six_spaces n) (sense b₁ l₁)) k in
    let e₂ : text_of (outcome b₂ l₂ w₂ t₂) ≡ render (six_spaces (kind b₂)) (sense b₂ l₂) = text_is b₂ l₂ w₂ t₂ h₂ in (
      λ e. render_injective (six_spaces (kind b₂)) (sense b₁ l₁) (sense b₂ l₂) (sense_ok b₁ l₁ w₁ t₁ h₁) (sense_ok b₂ l₂ w₂ t₂ h₂) (sym e₁ ∙ e ∙ e₂),
      λ e. e₁ ∙ ap (render (six_spaces (kind b₂))) e ∙ sym e₂,
    )

-- the same of what two calls of the code leave behind them
pub calls_alike : (b₁ : List ℕ) (l₁ : ℕ) (w₁ t₁ b₂ : List ℕ) (l₂ : ℕ) (w₂ t₂ : List ℕ)
    {w₁' t₁' w₂' t₂' : List ℕ} {r₁ r₂ : Returned} → kind b₁ ≡ kind b₂
    → Called (outcome b₁ l₁ w₁ t₁) w₁' t₁' r₁ → Called (outcome b₂ l₂ w₂ t₂) w₂' t₂' r₂ → answer_number r₁.answer ≡ 0 → answer_number r₂.answer ≡ 0
    → (take r₁.length t₁' ≡ take r₂.length t₂') ↔ (sense b₁ l₁ ≡ sense b₂ l₂)
calls_alike b₁ l₁ w₁ t₁ b₂ l₂ w₂ t₂ k p₁ p₂ z₁ z₂ =
    rw (p₁.length_is, p₁.text_is, p₂.length_is, p₂.text_is)
    (same_text_same_sense b₁ l₁ w₁ t₁ b₂ l₂ w₂ t₂ k (sym p₁.number_is ∙ z₁) (sym p₂.number_is ∙ z₂))

-- ---- the law of the CFA, in the sense of a book

-- the first line behind as many as there are earlier bodies not skipped
stands : (l : ℕ) (ds xs : List (List ℕ)) (w : List ℕ) (ys : List (List ℕ)) → x64_skipped l w ≡ false
    → take 1 (drop (unskipped l xs) (sense_from 1 l ds (xs ++ (w ∷ ys)))) ≡ x64_line w ∷ []
unfolding unskipped sense_from skipped lines_of x64_lines
stands l ds [] w ys h = rw h
stands l ds (x ∷ xs) w ys h = go (x64_skipped l x) (stands l (x ∷ ds) xs w ys h)
  where
    go : (t : Bool) → take 1 (drop (unskipped l xs) (sense_from 1 l (x ∷ ds) (xs ++ (w ∷ ys)))) ≡ x64_line w ∷ []
        → take 1 (drop (cond t 0 1 + unskipped l xs) (cond t [] (x64_line x ∷ []) ++ sense_from 1 l (x ∷ ds) (xs ++ (w ∷ ys)))) ≡ x64_line w ∷ []
    go true e = let z : 0 + unskipped l xs ≡ unskipped l xs = omega arith in rw z e
    go false e = let z : 1 + unskipped l xs ≡ suc (unskipped l xs) = omega arith in rw z e

-- Body i of an x64 book, w with the operations os, that is not skipped and sets no frame register: its line, which stands in the sense behind one for each
-- earlier body not skipped, has the CFA $rsp plus 8, 8 for each push, what was allocated, 40 for each machine frame and 8 for each error code.
pub book_cfa_law : (b : List ℕ) (l i : ℕ) (w : List ℕ) (os : List Op) → kind b ≡ 1 → i < count b → w ≡ body b i → os ≡ chain w
    → x64_skipped l w ≡ false → set_count os ≡ 0
    → take 1 (drop (unskipped l (take i (bodies b))) (sense b l))
    ≡ init (word w 0) (word w 1 - word w 0)
    (rule cfa (register_plus (ascii "$rsp") (pos (8 + (8 * pushes os + allocations os + 40 * machine_frames os + 8 * error_codes os)))) ∷ (sums op_rules os ++ ra_rules os))
    ∷ []
unfolding sense
book_cfa_law b l i w os k h e f s z =
    let split : bodies b ≡ take i (bodies b) ++ (w ∷ drop (suc i) (bodies b)) = bodies_at b i h ∙ rw e refl in
    rw k (ap (λ (xs : List (List ℕ)). take 1 (drop (unskipped l (take i (bodies b))) (sense_from 1 l [] xs))) split
    ∙ stands l [] (take i (bodies b)) w (drop (suc i) (bodies b)) s ∙ ap (λ (x : Line). x ∷ []) (rw f (cfa_law w (rw f at z))))
