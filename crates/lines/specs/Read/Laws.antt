-- The reader undoes `render` on well-formed lines, and so `render` is injective on them.
-- A line is its words with a space in front of each (a WIN line's tail behind them); no word holds a space or a newline, and a colon stands only
-- behind a rule's name. So lines are cut at newlines, words at spaces, rules at colons.
use Rattle.std.specs.Prelude.{◌≡◌, refl, ℕ, ◌<◌, Bool, true, false, not, length, ℤ, T, eqb}
use Rattle.std.proofs.Common.{sym, ap, ◌∙◌, arith}
use Rattle.std.proofs.Math.Bool.{and-false}
use mathlib.Core.List.{List, [], ◌∷◌, ◌++◌, map, head_d, append-nil, append_assoc}
use Rattle.text.specs.Text.{ascii}
use Rattle.text.specs.Tests.{all, all_append, all_mono, eqw, eqw_no, is_true, is_false, and_l, and_r, both}
use Rattle.digits.specs.Digits.{digit, hex, signed}
use Rattle.digits.specs.Digits.Laws.{hex_all, hex_some, signed_all, read_hex_lem, read_signed_lem}
use Rattle.lines.specs.Lines.{Bytes, Form, register, register_plus, at_register_plus, cfa_plus, at_cfa_plus, at_cfa_minus, Rule, rule, Line, init, later, win, cfa}
use Rattle.lines.specs.Lines.{form_text, rule_text, rules_text, init_text, later_text, flag, win_text, line_text, render, solid, name_byte, name_ok, form_ok, rule_ok, line_ok}
use Rattle.lines.specs.Cut.{free, cut, cut_block, cut_words, cut_ended, spaced, ended, after, after_words}
use Rattle.lines.specs.Read.{read_form, front, read_rules, read_later, read_cfi, read_win, read_words, read_line, read}
use Rattle.lines.specs.declared.StackInfo.{StackInfo}

-- ---- the words of a line

-- a form's words
unfoldable form_words : Form → List Bytes
form_words (register r) = r ∷ []
form_words (register_plus r n) = r ∷ signed n ∷ ascii "+" ∷ []
form_words (at_register_plus r n) = r ∷ signed n ∷ ascii "+" ∷ ascii "^" ∷ []
form_words (cfa_plus n) = cfa ∷ signed n ∷ ascii "+" ∷ []
form_words (at_cfa_plus n) = cfa ∷ signed n ∷ ascii "+" ∷ ascii "^" ∷ []
form_words (at_cfa_minus n) = cfa ∷ signed n ∷ ascii "-" ∷ ascii "^" ∷ []

-- each name with its colon, then the form
unfoldable rules_words : List Rule → List Bytes
rules_words [] = []
rules_words (rule n f ∷ rs) = (n ++ ascii ":") ∷ form_words f ++ rules_words rs

-- six spaces in place of one: five empty words
abbrev gap_words : Bool → List Bytes
gap_words true = [] ∷ [] ∷ [] ∷ [] ∷ [] ∷ []
gap_words false = []

-- 1 with a program
abbrev flag_word : Bool → Bytes
flag_word true = ascii "1"
flag_word false = ascii "0"

-- behind STACK
unfoldable line_words : Bool → Line → List Bytes
line_words six (init a z rs) = ascii "CFI" ∷ ascii "INIT" ∷ hex a ∷ hex z ∷ rules_words rs
line_words six (later a rs) = ascii "CFI" ∷ gap_words six ++ (hex a ∷ rules_words rs)
line_words six (win i p tail) =
    ascii "WIN" ∷ hex i.ty ∷ hex i.start.0 ∷ hex i.code_size ∷ hex i.prolog_size ∷ hex i.epilog_size
    ∷ hex i.params_size ∷ hex i.saved_regs_size ∷ hex i.locals_size ∷ hex i.max_stack_size ∷ flag_word p ∷ []

-- a WIN line's tail behind its space
unfoldable line_tail : Line → Bytes
line_tail (init a z rs) = []
line_tail (later a rs) = []
line_tail (win i p tail) = 32 ∷ tail

-- a line without its newline
unfoldable line_body : Bool → Line → Bytes
line_body six l = ascii "STACK" ++ (spaced 32 (line_words six l) ++ line_tail l)

-- ---- a line's text is its words, spaced

spaced_append : (s : ℕ) (ws vs : List Bytes) → spaced s (ws ++ vs) ≡ spaced s ws ++ spaced s vs
spaced_append s [] vs = refl
spaced_append s (w ∷ ws) vs = rw (spaced_append s ws vs, append_assoc w (spaced s ws) (spaced s vs))

form_words_lem : (f : Form) → spaced 32 (form_words f) ≡ 32 ∷ form_text f
unfolding form_words form_text
form_words_lem (register r) = rw (append-nil r)
form_words_lem (register_plus r n) = refl
form_words_lem (at_register_plus r n) = refl
form_words_lem (cfa_plus n) = refl
form_words_lem (at_cfa_plus n) = refl
form_words_lem (at_cfa_minus n) = refl

rules_words_lem : (rs : List Rule) → spaced 32 (rules_words rs) ≡ rules_text rs
unfolding rules_words rules_text rule_text
rules_words_lem [] = refl
rules_words_lem (rule n f ∷ rs) =
    rw (spaced_append 32 (form_words f) (rules_words rs), form_words_lem f, rules_words_lem rs) (ap (λ (l : Bytes). 32 ∷ l) (join n (form_text f) (rules_text rs)))
  where
    join : (x y r : Bytes) → (x ++ (58 ∷ [])) ++ ((32 ∷ y) ++ r) ≡ ((x ++ (58 ∷ 32 ∷ [])) ++ y) ++ r
    join x y r = simp append_assoc

-- a WIN line's numbers and flag
ten : (a b c d e f g h m w tail : Bytes)
    → (((((((((((a ++ (32 ∷ [])) ++ (b ++ (32 ∷ []))) ++ (c ++ (32 ∷ []))) ++ (d ++ (32 ∷ []))) ++ (e ++ (32 ∷ []))) ++ (f ++ (32 ∷ []))) ++ (g ++ (32 ∷ [])))
    ++ (h ++ (32 ∷ []))) ++ (m ++ (32 ∷ []))) ++ (w ++ (32 ∷ []))) ++ tail) ++ (10 ∷ [])
    ≡ ((a ++ 32 ∷ (b ++ 32 ∷ (c ++ 32 ∷ (d ++ 32 ∷ (e ++ 32 ∷ (f ++ 32 ∷ (g ++ 32 ∷ (h ++ 32 ∷ (m ++ 32 ∷ (w ++ [])))))))))) ++ 32 ∷ tail) ++ (10 ∷ [])
ten a b c d e f g h m w tail = simp (append_assoc, append-nil)

win_words : (i : StackInfo) (p : Bool) (tail w : Bytes) → flag p ≡ w ++ (32 ∷ []) → w ≡ flag_word p
    → win_text i p ++ tail ++ (10 ∷ []) ≡ line_body false (win i p tail) ++ (10 ∷ [])
unfolding win_text line_body line_words line_tail
win_words i p tail w e k = rw (e, ← k) (ap (λ (l : Bytes). ascii "STACK WIN " ++ l)
    (ten (hex i.ty) (hex i.start.0) (hex i.code_size) (hex i.prolog_size) (hex i.epilog_size) (hex i.params_size)
    (hex i.saved_regs_size) (hex i.locals_size) (hex i.max_stack_size) w tail))

line_words_lem : (six : Bool) (l : Line) → line_text six l ≡ line_body six l ++ 10 ∷ []
unfolding line_text line_body line_words line_tail init_text later_text
line_words_lem six (init a z rs) =
    rw (rules_words_lem rs) (ap (λ (l : Bytes). ascii "STACK CFI INIT " ++ l) (two (hex a) (hex z) (rules_text rs)))
  where
    two : (x y r : Bytes) → (((x ++ (32 ∷ [])) ++ y) ++ r) ++ (10 ∷ []) ≡ ((x ++ (32 ∷ (y ++ r))) ++ []) ++ (10 ∷ [])
    two x y r = simp (append_assoc, append-nil)
line_words_lem true (later a rs) = rw (rules_words_lem rs, append-nil (hex a ++ rules_text rs))
line_words_lem false (later a rs) = rw (rules_words_lem rs, append-nil (hex a ++ rules_text rs))
line_words_lem six (win i true tail) = win_words i true tail (ascii "1") refl refl
line_words_lem six (win i false tail) = win_words i false tail (ascii "0") refl refl

render_words : (six : Bool) (ls : List Line) → render six ls ≡ ended 10 (map (line_body six) ls)
unfolding render
render_words six [] = refl
render_words six (l ∷ ls) = rw (line_words_lem six l, render_words six ls, append_assoc (line_body six l) (10 ∷ []) (ended 10 (map (line_body six) ls)))

-- ---- which bytes the words hold

signed_name : (n : ℤ) → T (name_ok (signed n))
unfolding digit
signed_name n = signed_all name_byte n tt tt

form_names : (f : Form) → T (form_ok f) → T (all name_ok (form_words f))
unfolding form_words
form_names (register r) h = search (and_l, both)
form_names (register_plus r n) h = search (and_l, both, signed_name)
form_names (at_register_plus r n) h = search (and_l, both, signed_name)
form_names (cfa_plus n) h = search (both, signed_name)
form_names (at_cfa_plus n) h = search (both, signed_name)
form_names (at_cfa_minus n) h = search (both, signed_name)

name_free : (w : Bytes) → T (name_ok w) → T (free 58 w)
name_free = all_mono name_byte (λ c. not (eqb c 58)) (λ c h. and_l (not (eqb c 58)) _ h)

name_solid : (w : Bytes) → T (name_ok w) → T (all solid w)
name_solid = all_mono name_byte solid (λ c h. and_r (not (eqb c 58)) _ h)

hex_solid : (n : ℕ) → T (all solid (hex n))
unfolding digit
hex_solid n = hex_all solid n tt

rules_solid : (rs : List Rule) → T (all rule_ok rs) → T (all (all solid) (rules_words rs))
unfolding rules_words
rules_solid [] h = tt
rules_solid (rule n f ∷ rs) h =
    let hn : T (name_ok n) = search (and_l, and_r) in
    let hf : T (form_ok f) = search (and_l, and_r) in
    let hr : T (all rule_ok rs) = search (and_l, and_r) in
    both (all solid (n ++ ascii ":")) _ (all_append solid n (ascii ":") (name_solid n hn) tt)
    (all_append (all solid) (form_words f) (rules_words rs) (all_mono name_ok (all solid) name_solid (form_words f) (form_names f hf)) (rules_solid rs hr))

words_solid : (six : Bool) (l : Line) → T (line_ok l) → T (all (all solid) (line_words six l))
unfolding line_words
words_solid six (init a z rs) h = both (all solid (hex a)) _ (hex_solid a) (both (all solid (hex z)) _ (hex_solid z) (rules_solid rs h))
words_solid true (later a rs) h = both (all solid (hex a)) _ (hex_solid a) (rules_solid rs h)
words_solid false (later a rs) h = both (all solid (hex a)) _ (hex_solid a) (rules_solid rs h)
words_solid six (win i true tail) h = search (both, hex_solid) depth 12 fits 4000
words_solid six (win i false tail) h = search (both, hex_solid) depth 12 fits 4000

spaceless : (six : Bool) (l : Line) → T (line_ok l) → T (all (free 32) (line_words six l))
spaceless six l h =
    all_mono (all solid) (free 32) (all_mono solid (λ c. not (eqb c 32)) (λ c k. and_l (not (eqb c 32)) _ k)) (line_words six l) (words_solid six l h)

lineless : (ws : List Bytes) → T (all (all solid) ws) → T (free 10 (spaced 32 ws))
lineless [] h = tt
lineless (w ∷ ws) h =
    all_append (λ c. not (eqb c 10)) w (spaced 32 ws)
    (all_mono solid (λ c. not (eqb c 10)) (λ c k. and_r (not (eqb c 32)) _ k) w (and_l (all solid w) _ h))
    (lineless ws (and_r (all solid w) _ h))

body_lineless : (six : Bool) (l : Line) → T (line_ok l) → T (free 10 (line_body six l))
unfolding line_body line_tail
body_lineless six l h = all_append (λ c. not (eqb c 10)) (spaced 32 (line_words six l)) (line_tail l) (lineless (line_words six l) (words_solid six l h)) (tail_free l h)
  where
    tail_free : (k : Line) → T (line_ok k) → T (free 10 (line_tail k))
    tail_free (init a z rs) t = tt
    tail_free (later a rs) t = tt
    tail_free (win i p tail) t = t

-- ---- rules, read back

form_back : (f : Form) → T (form_ok f) → read_form (form_words f) ≡ f
unfolding read_form form_words
form_back (register r) h = refl
form_back (register_plus r n) h = rw (is_false (eqw r cfa) (and_r (name_ok r) _ h), read_signed_lem n)
form_back (at_register_plus r n) h = rw (is_false (eqw r cfa) (and_r (name_ok r) _ h), read_signed_lem n)
form_back (cfa_plus n) h = rw (read_signed_lem n)
form_back (at_cfa_plus n) h = rw (read_signed_lem n)
form_back (at_cfa_minus n) h = rw (read_signed_lem n)

colon : (w t : Bytes) → free 58 (w ++ 58 ∷ t) ≡ false
colon [] t = refl
colon (c ∷ w) t = rw (colon w t, and-false)

-- words without a colon go by
front_past : (ws vs : List Bytes) → T (all name_ok ws) → front (ws ++ vs) ≡ ws ++ front vs
unfolding front
front_past [] vs h = refl
front_past (w ∷ ws) vs h = rw (is_true (free 58 w) (name_free w (and_l (name_ok w) _ h)), front_past ws vs (and_r (name_ok w) _ h))

rules_past : (ws vs : List Bytes) → T (all name_ok ws) → read_rules (ws ++ vs) ≡ read_rules vs
unfolding read_rules
rules_past [] vs h = refl
rules_past (w ∷ ws) vs h = rw (is_true (free 58 w) (name_free w (and_l (name_ok w) _ h)), rules_past ws vs (and_r (name_ok w) _ h))

front_none : (rs : List Rule) → front (rules_words rs) ≡ []
unfolding front rules_words
front_none [] = refl
front_none (rule n f ∷ rs) = rw (colon n [])

rules_back : (rs : List Rule) → T (all rule_ok rs) → read_rules (rules_words rs) ≡ rs
unfolding read_rules rules_words head_d
rules_back [] h = refl
rules_back (rule n f ∷ rs) h =
    let hn : T (name_ok n) = search (and_l, and_r) in
    let hf : T (form_ok f) = search (and_l, and_r) in
    let hr : T (all rule_ok rs) = search (and_l, and_r) in
    let hw : T (all name_ok (form_words f)) = form_names f hf in
    rw (
      colon n [],
      cut_block 58 n [] (name_free n hn),
      front_past (form_words f) (rules_words rs) hw,
      front_none rs,
      append-nil (form_words f),
      form_back f hf,
      rules_past (form_words f) (rules_words rs) hw,
      rules_back rs hr,
    )

-- ---- lines, read back

hex_init : (n : ℕ) → eqw (hex n) (ascii "INIT") ≡ false
unfolding digit
hex_init n = eqw_no (λ c. not (eqb c 73)) (hex n) (ascii "INIT") (hex_all (λ c. not (eqb c 73)) n tt) tt

hex_word : (n : ℕ) → eqw (hex n) [] ≡ false
hex_word n = some (hex n) (hex_some n)
  where
    some : (w : Bytes) → 0 < length w → eqw w [] ≡ false
    some [] h = absurd (omega arith)
    some (c ∷ w) h = refl

init_back : (six : Bool) (a z : ℕ) (rs : List Rule) (line : Bytes) → T (all rule_ok rs) → read_words line (ascii "STACK" ∷ line_words six (init a z rs)) ≡ init a z rs
unfolding read_words read_cfi line_words
init_back six a z rs line h = rw (read_hex_lem a, read_hex_lem z, rules_back rs h)

later_back : (six : Bool) (a : ℕ) (rs : List Rule) (line : Bytes) → T (all rule_ok rs) → read_words line (ascii "STACK" ∷ line_words six (later a rs)) ≡ later a rs
unfolding read_words read_cfi read_later line_words
later_back true a rs line h = rw (read_hex_lem a, rules_back rs h)
later_back false a rs line h = rw (hex_init a, hex_word a, read_hex_lem a, rules_back rs h)

win_back : (six : Bool) (i : StackInfo) (p : Bool) (tail line : Bytes) (more : List Bytes) → after 32 line 12 ≡ tail
    → read_words line (ascii "STACK" ∷ (line_words six (win i p tail) ++ more)) ≡ win i p tail
unfolding read_words read_win line_words
win_back six i true tail line more e = simp (read_hex_lem, e)
win_back six i false tail line more e = simp (read_hex_lem, e)

-- the words of a line, with nothing or a tail behind them
cut_cfi : (w : Bytes) (ws : List Bytes) → T (free 32 w) → T (all (free 32) ws) → cut 32 ((w ++ (spaced 32 ws ++ [])) ++ 32 ∷ []) ≡ w ∷ ws
unfolding cut
cut_cfi w ws h k = rw (append-nil (spaced 32 ws), append_assoc w (spaced 32 ws) (32 ∷ []), cut_words 32 w ws [] h k, append-nil ws)

cut_win : (w : Bytes) (ws : List Bytes) (t : Bytes) → T (free 32 w) → T (all (free 32) ws)
    → cut 32 ((w ++ (spaced 32 ws ++ 32 ∷ t)) ++ 32 ∷ []) ≡ w ∷ (ws ++ cut 32 (t ++ 32 ∷ []))
cut_win w ws t h k = rw (append_assoc w (spaced 32 ws ++ 32 ∷ t) (32 ∷ []), append_assoc (spaced 32 ws) (32 ∷ t) (32 ∷ []), cut_words 32 w ws (t ++ 32 ∷ []) h k)

line_back : (six : Bool) (l : Line) → T (line_ok l) → read_line (line_body six l) ≡ l
unfolding read_line line_body line_tail line_words
line_back six (init a z rs) h = let b : Bytes = line_body six (init a z rs) in
    ap (read_words b) (cut_cfi (ascii "STACK") (line_words six (init a z rs)) tt (spaceless six (init a z rs) h)) ∙ init_back six a z rs b h
line_back six (later a rs) h = let b : Bytes = line_body six (later a rs) in
    ap (read_words b) (cut_cfi (ascii "STACK") (line_words six (later a rs)) tt (spaceless six (later a rs) h)) ∙ later_back six a rs b h
line_back six (win i p tail) h =
    let k : Line = win i p tail in
    let b : Bytes = line_body six k in
    ap (read_words b) (cut_win (ascii "STACK") (line_words six k) tail tt (spaceless six k h))
    ∙ win_back six i p tail b (cut 32 (tail ++ 32 ∷ [])) (after_words 32 (ascii "STACK") (line_words six k) tail tt (spaceless six k h))

-- ---- a text, read back

lines_back : (six : Bool) (ls : List Line) → T (all line_ok ls) → map read_line (map (line_body six) ls) ≡ ls
lines_back six [] h = refl
lines_back six (l ∷ ls) h = rw (line_back six l (and_l (line_ok l) _ h), lines_back six ls (and_r (line_ok l) _ h))

bodies_lineless : (six : Bool) (ls : List Line) → T (all line_ok ls) → T (all (free 10) (map (line_body six) ls))
bodies_lineless six [] h = tt
bodies_lineless six (l ∷ ls) h = both (free 10 (line_body six l)) _ (body_lineless six l (and_l (line_ok l) _ h)) (bodies_lineless six ls (and_r (line_ok l) _ h))

pub read_render : (six : Bool) (ls : List Line) → T (all line_ok ls) → read (render six ls) ≡ ls
unfolding read
read_render six ls h =
    ap read (render_words six ls) ∙ ap (map read_line) (cut_ended 10 (map (line_body six) ls) (bodies_lineless six ls h)) ∙ lines_back six ls h

-- two lists of well-formed lines of one kind with one text are one
pub render_injective : (six : Bool) (ls ms : List Line) → T (all line_ok ls) → T (all line_ok ms) → render six ls ≡ render six ms → ls ≡ ms
render_injective six ls ms h k e = sym (read_render six ls h) ∙ ap read e ∙ read_render six ms k
