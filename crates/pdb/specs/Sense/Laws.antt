-- The text of a PDB entry is the text of its sense, and no tail holds a newline.
use Rattle.std.specs.Prelude.{◌≡◌, ℕ, ◌-◌, ◌≤◌, ◌<◌, Bool, true, false, not, ◌&&◌, T, ltb, leb, eqb, Option, Some}
use Rattle.std.proofs.Math.Path.{refl, ap}
use Rattle.std.proofs.Common.{sym, ap₂, ◌∙◌, arith, leb→le}
use Rattle.std.proofs.Math.Decide.{dec_lt, ℕ_discrete}
use Rattle.std.proofs.Math.Bool.{cond}
use mathlib.Core.List.{List, [], ◌∷◌, ◌++◌, append-nil, map, map-append, reverse, reverse-cons}
use borrow.Author.Tests.{eq-eqb, ne_eqb, lt-ltb, le-ltb, le-leb, lt-leb}
use Rattle.text.specs.Tests.{all, all_mono, and_l, both}
use Rattle.digits.specs.Digits.{digit, hex}
use Rattle.digits.specs.Digits.Laws.{hex_all}
use Rattle.lines.specs.declared.StackInfo.{StackInfo}
use Rattle.lines.specs.Lines.{line_text, render, line_ok}
use Rattle.lines.specs.Lines.Laws.{render_append, render_unless}
use Rattle.refusal.specs.declared.Refusal.TheVariants.{Reach}
use Rattle.entry.specs.declared.Last.{Last}
use Rattle.entry.specs.Entry.{word}
use Rattle.entry.specs.Entry.Laws.{Accepted, accepted}
use Rattle.pdb.specs.declared.Range.{Range}
use Rattle.pdb.specs.Pdb.{start_of, end_of, range_at, prologs, codes, has_program, lead, trim, tail_text, max_stack, insert, sorted, prolog_of}
use Rattle.pdb.specs.Pdb.{contiguous, in_reach, pdb_skipped, pdb_judged, program, printable, pdb_layout, leaves, range_text, ranges_text, both_text, pdb_text, pdb_entry}
use Rattle.pdb.specs.Index.{layout_program, trim_all, one_each, apart_prologs, apart_codes, unpadded, reverse_snoc, info_of, win_text_lem}
use Rattle.pdb.specs.Sense.{last_unskipped, with_program, no_front, before, no_back, win_tail, most_stack, fields_of, prolog_fields}
use Rattle.pdb.specs.Sense.{code_fields, both_fields, placed, by_start, meets, stack_infos, win_line, pdb_lines}

-- ---- trimming

front_lead : (t : List ℕ) → no_front t ≡ lead t
unfolding no_front lead
front_lead [] = refl
front_lead (c ∷ cs) = rw (front_lead cs)

-- a byte behind what is left in front of it
behind : List ℕ → ℕ → List ℕ
behind [] c = cond (eqb c 32) [] (c ∷ [])
behind (d ∷ ds) c = (d ∷ ds) ++ (c ∷ [])

lead_snoc : (xs : List ℕ) (c : ℕ) → lead (xs ++ (c ∷ [])) ≡ behind (lead xs) c
unfolding lead behind
lead_snoc [] c = refl
lead_snoc (x ∷ xs) c = go (eqb x 32) (lead_snoc xs c)
  where
    go : (t : Bool) → lead (xs ++ (c ∷ [])) ≡ behind (lead xs) c → cond t (lead (xs ++ (c ∷ []))) ((x ∷ xs) ++ (c ∷ [])) ≡ behind (cond t (lead xs) (x ∷ xs)) c
    go true e = e
    go false e = refl

before_some : (c d : ℕ) (xs : List ℕ) → before c (xs ++ (d ∷ [])) ≡ c ∷ (xs ++ (d ∷ []))
unfolding before
before_some c d [] = refl
before_some c d (x ∷ xs) = refl

turned : (c : ℕ) (ys : List ℕ) → before c (reverse ys) ≡ reverse (behind ys c)
unfolding before behind
turned c [] = go (eqb c 32)
  where
    go : (t : Bool) → cond t [] (c ∷ []) ≡ reverse (cond t [] (c ∷ []))
    go true = refl
    go false = refl
turned c (d ∷ ds) = ap (before c) (reverse-cons d ds) ∙ before_some c d (reverse ds) ∙ ap (λ (t : List ℕ). c ∷ t) (sym (reverse-cons d ds)) ∙ sym (reverse_snoc (d ∷ ds) c)

back_unpadded : (t : List ℕ) → no_back t ≡ unpadded t
unfolding no_back lead
back_unpadded [] = refl
back_unpadded (c ∷ cs) =
    ap (before c) (back_unpadded cs) ∙ turned c (lead (reverse cs)) ∙ ap reverse (sym (lead_snoc (reverse cs) c)) ∙ ap unpadded_of (sym (reverse-cons c cs))
  where
    unpadded_of : List ℕ → List ℕ
    unpadded_of t = reverse (lead t)

trimmed_is : (t : List ℕ) → no_back (no_front t) ≡ trim t
unfolding trim
trimmed_is t = back_unpadded (no_front t) ∙ ap unpadded (front_lead t)

-- ---- flag, tail and fields

program_is : (ws : List ℕ) → with_program ws ≡ has_program ws
unfolding with_program has_program
program_is ws = go (eqb (word ws 10) 1) (eqb (word ws 11) 1)
  where
    go : (t u : Bool) → cond t u false ≡ (t && u)
    go true u = refl
    go false u = refl

tail_is : (ws : List ℕ) → win_tail ws ≡ tail_text ws
unfolding win_tail with_program tail_text
tail_is ws = rw (trimmed_is (program ws)) (go (eqb (word ws 10) 1) (eqb (word ws 11) 1))
  where
    go : (t u : Bool) → cond (cond t u false) (trim (program ws)) (cond t [] (hex (word ws 9))) ≡ cond t (cond u (trim (program ws)) []) (hex (word ws 9))
    go true true = refl
    go true false = refl
    go false u = refl

fields_info : (ws : List ℕ) (s e p : ℕ) → fields_of ws s e p ≡ info_of ws s e p
unfolding fields_of info_of most_stack max_stack
fields_info ws s e p = refl

line_text_lem : (ws : List ℕ) (s e p : ℕ) → range_text ws s e p ≡ line_text false (win_line ws (fields_of ws s e p))
unfolding range_text line_text win_line
line_text_lem ws s e p = rw (fields_info ws s e p, program_is ws, tail_is ws, win_text_lem ws s e p)

-- ---- by start

module _ (ws : List ℕ) (p : Range → ℕ) where
  -- the fields of a range's line, with prolog size p
  abbrev fields : Range → StackInfo
  fields r = fields_of ws (start_of r) (end_of r) (p r)

  placed_insert : (r : Range) (qs : List Range) → placed (fields r) (map fields qs) ≡ map fields (insert r qs)
  unfolding placed insert fields_of
  placed_insert r [] = refl
  placed_insert r (q ∷ qs) = go (dec_lt (start_of q) (start_of r)) (placed_insert r qs)
    where
      go : Dec (start_of q < start_of r) → placed (fields r) (map fields qs) ≡ map fields (insert r qs)
          → cond (ltb (start_of q) (start_of r)) (fields q ∷ placed (fields r) (map fields qs)) (fields r ∷ fields q ∷ map fields qs)
          ≡ map fields (cond (leb (start_of r) (start_of q)) (r ∷ q ∷ qs) (q ∷ insert r qs))
      go (yes h) e = rw (lt-ltb (start_of q) (start_of r) h, lt-leb (start_of r) (start_of q) h, e)
      go (no h) e = let g : start_of r ≤ start_of q = omega (arith, h) in rw (le-ltb (start_of q) (start_of r) g, le-leb (start_of r) (start_of q) g)

  by_start_lem : (rs : List Range) → by_start (map fields rs) ≡ map fields (sorted rs)
  unfolding by_start sorted
  by_start_lem [] = refl
  by_start_lem (r ∷ rs) = ap (placed (fields r)) (by_start_lem rs) ∙ placed_insert r (sorted rs)

meets_contiguous : (ws : List ℕ) → meets ws ≡ contiguous (prologs ws) (codes ws)
unfolding meets
meets_contiguous ws = go (ℕ_discrete (word ws 12) 1) (ℕ_discrete (word ws 13) 1)
  where
    go : Dec (word ws 12 ≡ 1) → Dec (word ws 13 ≡ 1)
        → (eqb (word ws 12) 1 && (eqb (word ws 13) 1 && eqb (end_of (range_at ws 15)) (start_of (range_at ws 17)))) ≡ contiguous (prologs ws) (codes ws)
    go (yes e) (yes f) = rw (eq-eqb (word ws 12) 1 e, eq-eqb (word ws 13) 1 f) (one_each ws e f)
    go (yes e) (no f) = rw (eq-eqb (word ws 12) 1 e, ne_eqb (word ws 13) 1 f) (apart_codes ws f)
    go (no e) u = rw (ne_eqb (word ws 12) 1 e) (apart_prologs ws e)

-- ---- the text is these lines' text

ranges_text_lem : (ws : List ℕ) (prolog : Bool) (rs : List Range) → ranges_text ws prolog rs ≡ render false (map (win_line ws) (map (fields ws (prolog_of prolog)) rs))
unfolding ranges_text render
ranges_text_lem ws prolog [] = refl
ranges_text_lem ws prolog (r ∷ rs) = rw (line_text_lem ws (start_of r) (end_of r) (prolog_of prolog r), ranges_text_lem ws prolog rs)

both_text_lem : (ws : List ℕ) (p c : Range) → both_text ws p c ≡ render false (win_line ws (both_fields ws p c) ∷ [])
unfolding both_text both_fields render
both_text_lem ws p c = line_text_lem ws (start_of p) (end_of c) (end_of p - start_of p) ∙ sym (append-nil _)

list_text : (ws : List ℕ) (prolog : Bool) (rs : List Range)
    → ranges_text ws prolog (sorted rs) ≡ render false (map (win_line ws) (by_start (map (fields ws (prolog_of prolog)) rs)))
list_text ws prolog rs = rw (by_start_lem ws (prolog_of prolog) rs) (ranges_text_lem ws prolog (sorted rs))

lists_text : (ws : List ℕ) (ps cs : List Range)
    → ranges_text ws true (sorted ps) ++ ranges_text ws false (sorted cs)
    ≡ render false (map (win_line ws) (by_start (map (prolog_fields ws) ps) ++ by_start (map (code_fields ws) cs)))
unfolding prolog_fields code_fields prolog_of
lists_text ws ps cs =
    let is : List StackInfo = by_start (map (prolog_fields ws) ps) in
    let js : List StackInfo = by_start (map (code_fields ws) cs) in
    ap₂ (λ (s t : List ℕ). s ++ t) (list_text ws true ps) (list_text ws false cs)
    ∙ sym (render_append false (map (win_line ws) is) (map (win_line ws) js)) ∙ ap (render false) (sym (map-append (win_line ws) is js))

pub pdb_text_lem : (ws : List ℕ) → pdb_text ws ≡ render false (pdb_lines ws)
unfolding pdb_text pdb_lines stack_infos
pdb_text_lem ws = rw (← meets_contiguous ws) (go (meets ws))
  where
    go : (t : Bool) → cond t (both_text ws (range_at ws 15) (range_at ws 17)) (ranges_text ws true (sorted (prologs ws)) ++ ranges_text ws false (sorted (codes ws)))
        ≡ render false (map (win_line ws)
        (cond t (both_fields ws (range_at ws 15) (range_at ws 17) ∷ []) (by_start (map (prolog_fields ws) (prologs ws)) ++ by_start (map (code_fields ws) (codes ws)))))
    go true = both_text_lem ws (range_at ws 15) (range_at ws 17)
    go false = lists_text ws (prologs ws) (codes ws)

-- ---- an entry that is not refused: its text is that of its lines, unless it is skipped

pub pdb_accepted : (last : Option Last) (ws : List ℕ) → (pdb_entry last ws).number ≡ 0 → Accepted (pdb_layout ws) (pdb_skipped last ws) (pdb_judged last ws) (pdb_text ws) last (Some (leaves ws))
unfolding pdb_entry pdb_judged
pdb_accepted last ws = accepted (pdb_layout ws) (pdb_skipped last ws) (in_reach ws) Reach (pdb_text ws) last (Some (leaves ws))

pub pdb_entry_text : (last : Option Last) (ws : List ℕ) → (pdb_entry last ws).number ≡ 0 → (pdb_entry last ws).text ≡ render false (cond (pdb_skipped last ws) [] (pdb_lines ws))
unfolding pdb_entry
pdb_entry_text last ws e = (pdb_accepted last ws e).text_is ∙ render_unless false (pdb_skipped last ws) (pdb_text ws) (pdb_lines ws) (pdb_text_lem ws)

-- what an entry leaves to the next is what the last body not skipped has
pub pdb_entry_next : (ds : List (List ℕ)) (ws : List ℕ) → (pdb_entry (last_unskipped ds) ws).number ≡ 0 → (pdb_entry (last_unskipped ds) ws).next ≡ last_unskipped (ws ∷ ds)
unfolding pdb_entry last_unskipped
pdb_entry_next ds ws e = (pdb_accepted (last_unskipped ds) ws e).next_is

-- ---- the lines are well formed

unbroken : (c : ℕ) → T (printable c) → T (not (eqb c 10))
unfolding printable
unbroken c h = let k : 32 ≤ c = leb→le 32 c (and_l (leb 32 c) _ h) in rw (ne_eqb c 10 (omega arith)) tt

tail_ok : (ws : List ℕ) → T (pdb_layout ws) → T (all (λ c. not (eqb c 10)) (win_tail ws))
unfolding win_tail digit
tail_ok ws h = rw (trimmed_is (program ws)) (go (with_program ws) (eqb (word ws 10) 1))
  where
    go : (t u : Bool) → T (all (λ c. not (eqb c 10)) (cond t (trim (program ws)) (cond u [] (hex (word ws 9)))))
    go true u = trim_all (λ c. not (eqb c 10)) (program ws) (all_mono printable (λ c. not (eqb c 10)) unbroken (program ws) (layout_program ws h))
    go false true = tt
    go false false = hex_all (λ c. not (eqb c 10)) (word ws 9) tt

lines_ok : (ws : List ℕ) (is : List StackInfo) → T (pdb_layout ws) → T (all line_ok (map (win_line ws) is))
unfolding win_line
lines_ok ws [] h = tt
lines_ok ws (i ∷ is) h = both (line_ok (win_line ws i)) _ (tail_ok ws h) (lines_ok ws is h)

pub pdb_entry_ok : (last : Option Last) (ws : List ℕ) → (pdb_entry last ws).number ≡ 0 → T (all line_ok (pdb_lines ws))
unfolding pdb_lines
pdb_entry_ok last ws e = lines_ok ws (stack_infos ws) (pdb_accepted last ws e).keeps
