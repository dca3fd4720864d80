-- An open group: bytes copied ahead of it, bytes that it takes in, and how it closes. Assumes nothing.
use mathlib.Core.Path.{◌≡◌, refl, sym, ap, ◌∙◌, subst}
use mathlib.Core.List.{List, [], ◌∷◌, ◌++◌, append_assoc, append-nil}
use Prim.Native.Nat.{ℕ, suc, ◌+◌, ◌-◌, ◌≤◌, ◌<◌}
use native.Mathlib.Nat.{not-suc-le-zero}
use native.Mathlib.Omega.{arith}
use lib.ListN.{length, get_or, take, drop, set, length-set, length-append, length-drop, take-append-drop}
use lib.Seq.{paste, length-paste, get_or-drop, drop-set-lt, take-set-le, length-take-le, get_or-set_same, get_or-set_other}
use Rattle.cobs.specs.Code.{encode, over}
use Rattle.cobs.proofs.Encoding.{encode_longer}
use Rattle.cobs.proofs.Over.{over-fits}
use Rattle.enc.specs.Fast.{Open, Kept}
use Rattle.enc.proofs.Deciding.{by_lt}
use Rattle.enc.proofs.Parts.{Same, group-front, paste-before, paste_in, paste-take, paste-drop}
use Rattle.enc.proofs.Tails.{RunAt, tail_end, tail_full, tail_cut}

-- ---- what stays

pub kept_refl : (s d : List ℕ) → Kept s d d
kept_refl s d = record { long = refl; rest = refl }

pub kept_on : {s d d' d'' : List ℕ} → Kept s d d' → Kept s d' d'' → Kept s d d''
kept_on p q = record { long = q.long ∙ p.long; rest = q.rest ∙ p.rest }

pub kept_set : (s d : List ℕ) (j v : ℕ) → j < length (encode s) → Kept s d (set d j v)
kept_set s d j v h = record { long = length-set d j v; rest = drop-set-lt (length (encode s)) d j v h }

pub kept-paste : (s d : List ℕ) (at : ℕ) (t : List ℕ) (n : ℕ) → at + n ≤ length (encode s) → length (encode s) ≤ length d → n ≤ length t
    → Kept s d (paste d at t n)
kept-paste s d at t n h k ht =
    record {
      long = length-paste d at t n (omega arith) ht;
      rest = paste-drop d at t n (omega arith) ht (length (encode s)) h;
    }

-- ---- where the encoder starts and ends

pub all-written : (s d d' : List ℕ) → length (encode s) ≤ length d → take (length (encode s)) d' ≡ encode s → Kept s d d' → d' ≡ over (encode s) d
all-written s d d' h q k =
    sym (take-append-drop (length (encode s)) d')
    ∙ ap (λ (u : List ℕ). u ++ drop (length (encode s)) d') q
    ∙ ap (λ (u : List ℕ). encode s ++ u) k.rest
    ∙ sym (over-fits (encode s) d h)

pub same-open : {s d : List ℕ} {i i' p p' out out' a a' : ℕ} → Open s i p out a d → i ≡ i' → p ≡ p' → out ≡ out' → a ≡ a' → Open s i' p' out' a' d
same-open {s} {d} {i} {i'} {p} {p'} {out} {out'} {a} {a'} o q₁ q₂ q₃ q₄ =
    subst (λ (x : ℕ). Open s x p' out' a' d) q₁
    (subst (λ (x : ℕ). Open s i x out' a' d) q₂ (subst (λ (x : ℕ). Open s i p x a' d) q₃ (subst (λ (x : ℕ). Open s i p out x d) q₄ o)))

module _ (s : List ℕ) (i place out a : ℕ) (d : List ℕ) (o : Open s i place out a d) where
  -- each byte that is left makes one at least
  pub room : out + (length s - i) ≤ length (encode s)
  room = omega (arith, o.size, encode_longer (drop o.start s), length-drop o.start s, o.here, o.code, o.within)

  -- ---- bytes ahead

  -- the buffer changed behind the front, with n bytes ahead now
  pub changed : (n : ℕ) → i + n ≤ length s → (d' : List ℕ) → length d' ≡ length d → take place d' ≡ take place d
      → Same s o.start d' (place + 1) (o.run + n) → Open s i place out n d'
  changed n h d' long kept same =
      record {
        start = o.start;
        run = o.run;
        here = o.here;
        code = o.code;
        few = o.few;
        within = h;
        clean = o.clean;
        size = o.size;
        front = ap (λ (u : List ℕ). u ++ encode (drop o.start s)) kept ∙ o.front;
        copied = same;
        fits = omega (arith, long, o.fits);
      }

  -- n bytes copied as they are
  pub ahead : (n : ℕ) → i + n ≤ length s → Open s i place out n (paste d out (drop i s) n)
  ahead n h =
      let ht : n ≤ length (drop i s) = omega (arith, length-drop i s) in
      let hd : out + n ≤ length d = omega (arith, room, o.fits) in
      changed n h (paste d out (drop i s) n) (length-paste d out (drop i s) n hd ht)
      (paste-take d out (drop i s) n hd ht place (omega (arith, o.code)))
      (λ k l.
      by_lt k o.run
      (λ m. paste-before d out (drop i s) n hd ht (place + 1 + k) (omega (arith, o.code)) ∙ o.copied k (omega arith))
      (λ m.
      let e : out + (k - o.run) ≡ place + 1 + k = omega (arith, o.code) in
      let e' : i + (k - o.run) ≡ o.start + k = omega (arith, o.here) in
      ap (λ (j : ℕ). get_or (paste d out (drop i s) n) j 0) (sym e)
      ∙ paste_in d out (drop i s) n hd ht (k - o.run) (omega arith)
      ∙ get_or-drop i s (k - o.run) 0
      ∙ ap (λ (j : ℕ). get_or s j 0) e'))

  -- the group takes in n of them, none zero
  pub pass : (n : ℕ) → n ≤ a → ((k : ℕ) → k < n → get_or s (i + k) 0 ≡ 0 → ⊥) → out + n ≤ place + 255
      → Open s (i + n) place (out + n) (a - n) d
  pass n h nz few =
      record {
        start = o.start;
        run = o.run + n;
        here = omega (arith, o.here);
        code = omega (arith, o.code);
        few = omega (arith, o.code);
        within = omega (arith, o.within);
        clean = λ k l. by_lt k o.run (λ m. o.clean k m)
            (λ m.
            let e : i + (k - o.run) ≡ o.start + k = omega (arith, o.here) in
            subst (λ (j : ℕ). get_or s j 0 ≡ 0 → ⊥) e (nz (k - o.run) (omega arith)));
        size = o.size;
        front = o.front;
        copied = λ k l. o.copied k (omega arith);
        fits = o.fits;
      }

  -- ---- the group closes: d' has its code and its bytes, and the front as it was

  run_at : (o.run < 254 → i < length s → get_or s i 0 ≡ 0) → RunAt s o.start o.run
  run_at h =
      record {
        few = o.few;
        within = omega (arith, o.here, o.within);
        clean = o.clean;
        stops = λ l m. ap (λ (j : ℕ). get_or s j 0) o.here ∙ h l (omega (arith, o.here));
      }

  module _ (d' : List ℕ) (long : length d' ≡ length d) (kept : take place d' ≡ take place d) (coded : get_or d' place 0 ≡ out - place)
      (same : Same s o.start d' (place + 1) o.run) where
    abbrev run : List ℕ
    run = take o.run (drop o.start s)

    group : take out d' ≡ take place d ++ (suc o.run ∷ run)
    group =
        let c : get_or d' place 0 ≡ suc o.run = coded ∙ omega (arith, o.code) in
        ap (λ (j : ℕ). take j d') (sym o.code)
        ∙ group-front d' place (suc o.run) o.run o.start s (omega (arith, long, room, o.fits, o.code)) (omega (arith, o.here, o.within)) c same
        ∙ ap (λ (u : List ℕ). u ++ (suc o.run ∷ run)) kept

    -- with the encoding t of the rest behind it
    group-then : (t : List ℕ) → encode (drop o.start s) ≡ suc o.run ∷ (run ++ t)
        → (take out d' ++ t ≡ encode s) × (out + length t ≡ length (encode s))
    group-then t q =
        let l : length run ≡ o.run = length-take-le o.run (drop o.start s) (omega (arith, length-drop o.start s, o.here, o.within)) in (
          ap (λ (u : List ℕ). u ++ t) group ∙ append_assoc (take place d) (suc o.run ∷ run) t
              ∙ ap (λ (u : List ℕ). take place d ++ u) (sym q) ∙ o.front,
          omega (arith, o.size, o.code, l, ap length q, length-append run t),
        )

    -- before a zero, with b bytes behind it copied
    pub shut : i < length s → get_or s i 0 ≡ 0 → out < place + 255
        → (b : ℕ) → i + 1 + b ≤ length s → Same s (i + 1) d' (out + 1) b → Open s (i + 1) out (out + 1) b d'
    shut h z few b hb next =
        let e : o.start + o.run + 1 ≡ i + 1 = omega (arith, o.here) in
        let t = tail_cut s o.start o.run (run_at (λ l m. z)) (omega (arith, o.here)) (omega (arith, o.code)) in
        let g = group-then (encode (drop (i + 1) s)) (t ∙ ap (λ (j : ℕ). suc o.run ∷ (run ++ encode (drop j s))) e) in
        record {
          start = i + 1;
          run = 0;
          here = omega arith;
          code = omega arith;
          few = omega arith;
          within = hb;
          clean = λ k l. absurd (not-suc-le-zero l);
          size = g.1;
          front = g.0;
          copied = λ k l. next k (omega arith);
          fits = omega (arith, long, o.fits);
        }

    -- full, and more to come
    pub shut-full : i < length s → out ≡ place + 255 → Open s i out (out + 1) 0 d'
    shut-full h f =
        let t = tail_full s o.start o.run (run_at (λ l m. absurd (omega (arith, o.code)))) (omega (arith, o.here)) (omega (arith, o.code)) in
        let g = group-then (encode (drop i s)) (t ∙ ap (λ (j : ℕ). suc o.run ∷ (run ++ encode (drop j s))) o.here) in
        record {
          start = i;
          run = 0;
          here = omega arith;
          code = omega arith;
          few = omega arith;
          within = omega arith;
          clean = λ k l. absurd (not-suc-le-zero l);
          size = g.1;
          front = g.0;
          copied = λ k l. absurd (not-suc-le-zero l);
          fits = omega (arith, long, o.fits);
        }

    -- at the source's end
    pub shut-end : i ≡ length s → (out ≡ length (encode s)) × (take (length (encode s)) d' ≡ encode s)
    shut-end h =
        let t = tail_end s o.start o.run (run_at (λ l m. absurd (omega (arith, h)))) (omega (arith, o.here, h)) in
        let g = group-then [] t in
        let e : out ≡ length (encode s) = omega (arith, g.1) in
        (e, ap (λ (j : ℕ). take j d') (sym e) ∙ sym (append-nil (take out d')) ∙ g.0)

  -- ---- the same where the code is all that is written

  abbrev patched : List ℕ
  patched = set d place (out - place)

  pub kept-code : Kept s d patched
  kept-code = kept_set s d place (out - place) (omega (arith, o.code, room))

  front_same : take place patched ≡ take place d
  front_same = take-set-le place d place (out - place) (omega arith)

  code-there : get_or patched place 0 ≡ out - place
  code-there = get_or-set_same d place (out - place) 0 (omega (arith, o.code, room, o.fits))

  pub bytes_same : Same s o.start patched (place + 1) (o.run + a)
  bytes_same k l = get_or-set_other d place (place + 1 + k) (out - place) 0 (λ w. omega (arith, w)) ∙ o.copied k l

  pub close_zero : i < length s → get_or s i 0 ≡ 0 → out < place + 255 → Open s (i + 1) out (out + 1) (a - 1) patched
  close_zero h z few =
      shut patched kept-code.long front_same code-there (λ k l. bytes_same k (omega arith)) h z few (a - 1) (omega (arith, o.within))
      (λ k l.
      let e : place + 1 + (o.run + 1 + k) ≡ out + 1 + k = omega (arith, o.code) in
      let e' : o.start + (o.run + 1 + k) ≡ i + 1 + k = omega (arith, o.here) in
      ap (λ (j : ℕ). get_or patched j 0) (sym e) ∙ bytes_same (o.run + 1 + k) (omega arith) ∙ ap (λ (j : ℕ). get_or s j 0) e')

  pub close-full : i < length s → out ≡ place + 255 → Open s i out (out + 1) 0 patched
  close-full = shut-full patched kept-code.long front_same code-there (λ k l. bytes_same k (omega arith))

  pub close-end : i ≡ length s → (out ≡ length (encode s)) × (take (length (encode s)) patched ≡ encode s)
  close-end = shut-end patched kept-code.long front_same code-there (λ k l. bytes_same k (omega arith))

-- the group opens before its bytes, and there is room for what is left
pub inside : {s d : List ℕ} {i place out a : ℕ} → Open s i place out a d → (place < out) × (out + (length s - i) ≤ length d)
inside {s} {d} {i} {place} {out} {a} o = (omega (arith, o.code), omega (arith, room s i place out a d o, o.fits))
