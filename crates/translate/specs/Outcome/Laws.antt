-- What the functions of the call promise each other, and that the call keeps its contract.
use Rattle.std.specs.Prelude.{◌≡◌, refl, List, [], ◌∷◌, ◌++◌, true, false, Result, Ok, Err, MatchResult, length, take, drop, replicate}
use Rattle.std.proofs.Common.{◌∙◌, add-one, length-take-le, take-append-drop}
use Prim.Native.Nat.{ℕ, zero, suc, ◌+◌, ◌-◌, ◌≤◌, ◌<◌}
use native.Mathlib.Omega.{arith}
use borrow.Author.Tests.{lt-ltb, le-ltb}
use Rattle.text.specs.Text.{Put, MAX}
use Rattle.text.specs.Text.Laws.{◌⨾◌, put_none, put_as, put_fits, put_length, put_whole}
use Rattle.refusal.specs.declared.Refusal.{Refusal}
use Rattle.refusal.specs.declared.Refusal.TheVariants.{Work, Limit, Contents, Long, Room}
use Rattle.refusal.specs.Refusal.{number as number_of, answer_number}
use Rattle.refusal.specs.Refusal.Laws.{numbered}
use Rattle.entry.specs.declared.Wrote.{Wrote}
use Rattle.entry.specs.Entry.{Entry, no_last, Done, Refused}
use Rattle.book.specs.Book.{kind, bodies, contents_ok}
use Rattle.translate.specs.declared.Next.{Next}
use Rattle.translate.specs.declared.Returned.{Returned}
use Rattle.translate.specs.Outcome.{entry_of, AREA, LONGEST, MOST_LIMIT, verdict, Walked, onward, walk, walk_of, refused, cleared, outcome, Called}

-- ---- a step, and the loop

-- the text of an entry that is done
abbrev pub kept : ℕ → List ℕ → List ℕ
kept zero s = s
kept (suc n) s = []

-- one entry was tried and is done: its text is put
pub record Went (e : Entry) (t : List ℕ) (used : ℕ) (t' : List ℕ) (n : Next) : Type 0 where
  pub number_is : verdict e.number (length t) used (length e.text) ≡ 0
  pub next_is : n.last ≡ e.next
  pub put : Put t used e.text t' n.used
  pub fits : n.used ≤ length t

-- it is refused: by its own number, 8 or 9, and nothing is put
pub record Stopped (e : Entry) (t : List ℕ) (used : ℕ) (t' : List ℕ) (r : Refusal) : Type 0 where
  pub number_is : number_of r ≡ verdict e.number (length t) used (length e.text)
  pub same : t' ≡ t

abbrev pub Stepped : Entry → List ℕ → ℕ → List ℕ → Result Next Refusal → Type 0
Stepped e t used t' r = MatchResult r (Went e t used t') (Stopped e t used t')

-- all were, up to the first that is refused: what is returned, and the text buffer
pub record Ended (o : Walked) (t t' : List ℕ) (r : Returned) : Type 0 where
  pub number_is : answer_number r.answer ≡ o.number
  pub entries_is : r.entries ≡ o.done
  pub length_is : r.length ≡ length o.text
  pub text_is : t' ≡ o.text ++ drop (length o.text) t
  pub fits : r.length ≤ length t

-- the loop where i entries are done and the bodies bs are left: what is left to do gives what the whole gives
pub record Going (b : List ℕ) (l : ℕ) (t₀ : List ℕ) (n : Next) (i : ℕ) (bs : List (List ℕ)) (t : List ℕ) : Type 0 where
  pub acc : List ℕ
  pub put : Put t₀ 0 acc t n.used
  pub fits : n.used ≤ length t₀
  pub short : length t₀ < MAX
  pub same : walk_of b l (length t₀) ≡ walk (kind b) l (length t₀) n.last bs i acc

pub going_none : (b : List ℕ) (l : ℕ) (t : List ℕ) (bs : List (List ℕ)) → bs ≡ bodies b → length t < MAX → Going b l t (record { used = 0; last = no_last }) 0 bs t
unfolding walk_of
going_none b l t bs e h = record { acc = []; put = put_none (omega arith) (omega arith); fits = omega arith; short = h; same = rw e refl }

stop : (n done : ℕ) (acc : List ℕ) (rest : Walked) → (n ≡ 0 → ⊥) → onward n done acc rest ≡ record { number = n; done = done; text = acc }
stop zero done acc rest z = absurd (z refl)
stop (suc n) done acc rest z = refl

kept_none : (n : ℕ) (s : List ℕ) → (n ≡ 0 → ⊥) → kept n s ≡ []
kept_none zero s z = absurd (z refl)
kept_none (suc n) s z = refl

ended : (o : Walked) (t t' : List ℕ) (used : ℕ) (a : Result Unit Refusal) → answer_number a ≡ o.number → Put t 0 o.text t' used → used ≤ length t → length t < MAX
    → Ended o t t' (record { answer = a; entries = o.done; length = used })
ended o t t' used a n p h k =
    let e : used ≡ length o.text = omega (arith, p.next) in
    let z : 0 + length o.text ≡ length o.text = omega arith in
    record { number_is = n; entries_is = refl; length_is = e; text_is = rw z at (put_fits p (omega arith)).1; fits = h }

module _ {b : List ℕ} {l : ℕ} {t₀ : List ℕ} {n : Next} {i : ℕ} {bs : List (List ℕ)} {t : List ℕ} (g : Going b l t₀ n i bs t) where
  used_is : n.used ≡ length g.acc
  used_is = omega (arith, g.put.next, g.short, g.fits)

  long : length t ≡ length t₀
  long = put_length g.put

  module _ (body : List ℕ) (rest : List (List ℕ)) (q : bs ≡ body ∷ rest) where
    -- the first of the entries that are left
    abbrev now : Entry
    now = entry_of (kind b) l n.last body

    first : walk (kind b) l (length t₀) n.last bs i g.acc
        ≡ onward (verdict now.number (length t) n.used (length now.text)) i g.acc (walk (kind b) l (length t₀) now.next rest (suc i) (g.acc ++ now.text))
    unfolding walk
    first = rw (q, long, used_is)

    pub going_more : (m : Next) (t' : List ℕ) → Went now t n.used t' m → Going b l t₀ m (i + 1) rest t'
    going_more m t' p = record {
      acc = g.acc ++ now.text;
      put = g.put ⨾ p.put;
      fits = omega (arith, p.fits, long);
      short = g.short;
      same = g.same ∙ first ∙ rw (p.number_is, ← p.next_is, add-one) refl;
    }

    pub going_stop : (r : Refusal) (t' : List ℕ) → Stopped now t n.used t' r → Ended (walk_of b l (length t₀)) t₀ t' (record { answer = Err r; entries = i; length = n.used })
    going_stop r t' p =
        let w : walk_of b l (length t₀) ≡ record { number = number_of r; done = i; text = g.acc } = g.same ∙ first ∙ rw (← p.number_is) (stop (number_of r) i g.acc _ (numbered r)) in
        rw (w, p.same) (ended (record { number = number_of r; done = i; text = g.acc }) t₀ t n.used (Err r) refl g.put g.fits g.short)

  pub going_end : bs ≡ [] → Ended (walk_of b l (length t₀)) t₀ t (record { answer = Ok tt; entries = i; length = n.used })
  unfolding walk
  going_end e = rw (g.same, e) (ended (record { number = 0; done = i; text = g.acc }) t₀ t n.used (Ok tt) refl g.put g.fits g.short)

-- ---- the call

zeros : (n : ℕ) (w a : List ℕ) → n ≤ length w → a ≡ replicate (length (take n w)) 0 → a ++ drop n w ≡ replicate n 0 ++ drop n w
zeros n w a h e = rw (e, length-take-le n w h)

-- what 1 to 3 return
abbrev none_done : Refusal → Returned
none_done r = record { answer = Err r; entries = 0; length = 0 }

called_refused : (r : Refusal) (w t : List ℕ) → Called (refused (number_of r) w t) w t (none_done r)
called_refused r w t = record { number_is = refl; entries_is = refl; length_is = refl; work_is = refl; text_is = refl; fits = omega arith }

module _ (b : List ℕ) (l : ℕ) (w t : List ℕ) where
  pub called_1 : length w < AREA → Called (outcome b l w t) w t (none_done Work)
  unfolding outcome
  called_1 h = rw (lt-ltb (length w) AREA h) (called_refused Work w t)

  -- the work area is the first bytes of what is lent for it; the rest stays behind it
  module _ (h : AREA ≤ length w) (a : List ℕ) where
    pub called_2 : a ≡ take AREA w → MOST_LIMIT < l → Called (outcome b l w t) (a ++ drop AREA w) t (none_done Limit)
    unfolding outcome
    called_2 s k = rw (s, take-append-drop AREA w, le-ltb (length w) AREA h, lt-ltb MOST_LIMIT l k) (called_refused Limit w t)

    pub called_3 : a ≡ take AREA w → l ≤ MOST_LIMIT → contents_ok b ≡ false → Called (outcome b l w t) (a ++ drop AREA w) t (none_done Contents)
    unfolding outcome
    called_3 s k e = rw (s, take-append-drop AREA w, le-ltb (length w) AREA h, le-ltb MOST_LIMIT l k, e) (called_refused Contents w t)

    pub called_ran : l ≤ MOST_LIMIT → contents_ok b ≡ true → (t' : List ℕ) (r : Returned) → length t' ≡ length t → Ended (walk_of b l (length t)) t t' r
        → a ≡ replicate AREA 0 → Called (outcome b l w t) (a ++ drop AREA w) t' r
    unfolding outcome cleared
    called_ran k e t' r q p z = rw (le-ltb (length w) AREA h, le-ltb MOST_LIMIT l k, e) (record {
      number_is = p.number_is;
      entries_is = p.entries_is;
      length_is = p.length_is;
      work_is = rw z refl;
      text_is = p.text_is;
      fits = omega (arith, p.fits);
    })

-- ---- one entry, from the work area into the text

verdict_more : (n room used size : ℕ) → (n ≡ 0 → ⊥) → n ≡ verdict n room used size
unfolding verdict
verdict_more zero room used size z = absurd (z refl)
verdict_more (suc n) room used size z = refl

kept_put : (n : ℕ) (s : List ℕ) {t : List ℕ} {used : ℕ} → (n ≡ 0 → ⊥) → length t < MAX → used ≤ length t → Put t used (kept n s) t used
kept_put zero s z k h = absurd (z refl)
kept_put (suc n) s z k h = put_none (omega arith) (omega arith)

module _ (e : Entry) (w w' t : List ℕ) (used : ℕ) where
  pub stops : (r : Refusal) → Refused e w w' r → Stopped e t used t r
  stops r p = record { number_is = rw (← p.number_is) (verdict_more (number_of r) (length t) used (length e.text) (numbered r)); same = refl }

  module _ (x : Wrote) (p : Done e w 0 w' x) (long : length w ≡ AREA) (h : used ≤ length t) (k : length t < MAX) where
    pub too_long : LONGEST < x.at → Stopped e t used t Long
    unfolding verdict
    too_long l = record { number_is = rw p.number_is (simp (lt-ltb LONGEST (length e.text) (omega (arith, p.put.next)))); same = refl }

    module _ (l : x.at ≤ LONGEST) where
      whole : (x.at ≡ length e.text) × (take x.at w' ≡ e.text)
      whole = put_whole p.put (omega arith) (omega arith)

      pub no_room : length t - used < x.at → Stopped e t used t Room
      unfolding verdict
      no_room m = record {
        number_is = rw p.number_is (simp (le-ltb LONGEST (length e.text) (omega (arith, whole)), lt-ltb (length t - used) (length e.text) (omega (arith, whole))));
        same = refl;
      }

      pub copied : x.at ≤ length t - used → (t' : List ℕ) (q : ℕ) → Put t used (take x.at w') t' q → Went e t used t' (record { used = q; last = x.last })
      unfolding verdict
      copied m t' q y = let z = put_as y whole.1 in record {
        number_is = rw p.number_is (simp (le-ltb LONGEST (length e.text) (omega (arith, whole)), le-ltb (length t - used) (length e.text) (omega (arith, whole))));
        next_is = p.next_is;
        put = z;
        fits = omega (arith, z.next, whole);
      }
