-- A table whose rows change at two keys at most, or that lets a row in at the first: what is seen at the two says what it is. Over any row type and size.
use Rattle.std.specs.Prelude.{ℕ, ◌≡◌, Bool, true, false, cond, ◌&&◌}
use Rattle.std.proofs.Math.Path.{refl, sym, ap}
use Rattle.std.proofs.Common.{◌∙◌, eqb-true}
use Rattle.std.proofs.Math.Bool.{not}
use Rattle.table.specs.Tables.{Found, absent, here, Table, find, adjust, insert, keys, has, fmap, Room}
use Rattle.table.specs.Deciding.{Is, is_true, is_false, decide}
use Rattle.table.proofs.TableLaws.{find_insert, adjust_absent}
use Rattle.table.specs.Rising.{Rises}
use Rattle.table.proofs.SameId.{find_in_lem}
use Rattle.table.specs.Named.{id_of, is_id, find_by, put_by}
use Rattle.table.proofs.NamedLaws.{never, same_swap, find_by_lem, rises_by, put_back_by}
use Rattle.table.proofs.Alike as Alike
use Rattle.table.specs.Named.{Named}
use Rattle.std.specs.Prelude.{None, Some}
use Rattle.table.specs.Touching.{Puts, Touched, put, let_in_lem}

-- a row that was let in at the key a of w
pub record Grown {A : Type 0} (n : ℕ) (w u : Table A) (a : Named) (r : A) : Type 0 where
  pub named : a ≡ Some (id_of a)
  pub room : Room n w (id_of a)
  pub is : u ≡ insert w (id_of a) r

module _ {A : Type 0} where
  -- ── How a rule touches: nothing, then a row anew, as often as it likes ──
  has_fmap : (f : A → A) (o : Found A) → has (fmap f o) ≡ has o
  unfolding has fmap
  has_fmap f absent = refl
  has_fmap f (here r) = refl

  has-put : (t : Table A) (k : Named) (j : ℕ) (x : A) → has (find (put_by t k x) j) ≡ has (find t j)
  has-put t k j x = ap has (find_by_lem t k j x) ∙ go (is_id k j)
    where
      go : (e : Bool) → has (cond e (fmap (λ old. x) (find t j)) (find t j)) ≡ has (find t j)
      go true = has_fmap (λ old. x) (find t j)
      go false = refl

  find_off : (t : Table A) (k : Named) (j : ℕ) (x : A) → is_id k j ≡ false → find t j ≡ find (put_by t k x) j
  find_off t k j x e = sym (find_by_lem t k j x ∙ ap (λ z. cond z (fmap (λ old. x) (find t j)) (find t j)) e)

  pub puts_none : {t : Table A} (a b : Named) → Puts t t a b
  puts_none a b = record { rises = λ r. r; same = λ i. refl; elsewhere = λ i p q. refl }

  pub puts_swap : {t u : Table A} {a b : Named} → Puts t u a b → Puts t u b a
  puts_swap p = record { rises = p.rises; same = p.same; elsewhere = λ i x y. p.elsewhere i y x }

  module _ {t u : Table A} {a b : Named} (p : Puts t u a b) (x : A) where
    pub puts_first : Puts t (put_by u a x) a b
    puts_first = record { rises = λ r. rises_by u a x (p.rises r); same = λ i. has-put u a i x ∙ p.same i; elsewhere = λ i v w. p.elsewhere i v w ∙ find_off u a i x v }

    pub puts_second : Puts t (put_by u b x) a b
    puts_second = record { rises = λ r. rises_by u b x (p.rises r); same = λ i. has-put u b i x ∙ p.same i; elsewhere = λ i v w. p.elsewhere i v w ∙ find_off u b i x w }

  module _ {n : ℕ} {t : Table A} {a b : Named} where
    pub untouched : Touched n t t a b
    untouched = put (puts_none a b)

    pub at_first : (x : A) → Touched n t (put_by t a x) a b
    at_first x = put (puts_first (puts_none a b) x)

    pub at_second : (x : A) → Touched n t (put_by t b x) a b
    at_second x = put (puts_second (puts_none a b) x)

  -- ── What is seen at a and b, put back there, second before first ──
  module _ (g : Found A → A) (h : (r : A) → g (here r) ≡ r) (t : Table A) (a b : Named) where
    abbrev pub put_back_in : Table A → Table A
    put_back_in u = put_by (put_by t b (g (find_by u b))) a (g (find_by u a))

    abbrev pub came : Table A → Bool
    came u = not (has (find_by t a)) && has (find_by u a)

    shown : (f o : Found A) → has o ≡ has f → fmap (λ old. g o) f ≡ o
    unfolding has fmap
    shown absent absent e = refl
    shown absent (here r) e = never e
    shown (here r) absent e = never (sym e)
    shown (here r) (here s) e = ap here (h s)

    unmoved : (x : Bool) → not x && x ≡ false
    unmoved true = refl
    unmoved false = refl

    same_by : {u : Table A} → Puts t u a b → (k : Named) → has (find_by u k) ≡ has (find_by t k)
    same_by p None = refl
    same_by p (Some i) = p.same i

    not_came : {u : Table A} → Puts t u a b → came u ≡ false
    not_came p = ap (λ z. not (has (find_by t a)) && z) (same_by p a) ∙ unmoved (has (find_by t a))

    pub put_back : {n : ℕ} {u : Table A} → Rises (keys t) → Touched n t u a b → came u ≡ false → u ≡ put_back_in u
    unfolding has
    put_back {n} {u} r (put p) c = sym (Alike.put_back g t u a b r (p.rises r) (λ i. shown (find t i) (find u i) (p.same i)) p.elsewhere)
    put_back {n} {u} r (let_in_lem i d s m e) c =
        never
        (sym (ap (λ k. not (has (find_by t k)) && has (find_by u k)) s ∙ ap (λ f. not (has f) && has (find u i)) m.new ∙ ap has (ap (λ w. find w i) e ∙ find_in_lem t i d m.new)) ∙ c)

  -- a row let in: what is put back before it changes nothing
  module _ (g : Found A → A) (h : (r : A) → g (here r) ≡ r) (t : Table A) (i : ℕ) (b : Named) (d : A) (new : find t i ≡ absent) where
    second_still : (k : Named) → Is (is_id k i) → put_by t k (g (find_by (insert t i d) k)) ≡ t
    second_still None e = refl
    second_still (Some j) (is_true q) = adjust_absent t j _ (ap (find t) (eqb-true j i q) ∙ new)
    second_still (Some j) (is_false q) = ap (λ z. adjust t j (λ old. g z)) (find_insert t i j d new ∙ ap (λ z. cond z (here d) (find t j)) (same_swap (Some i) (Some j) ∙ q)) ∙ put_back_by g h t (Some j)

    still : put_by (put_by t b (g (find_by (insert t i d) b))) (Some i) (g (find (insert t i d) i)) ≡ t
    still = ap (λ z. put_by z (Some i) (g (find (insert t i d) i))) (second_still b (decide (is_id b i))) ∙ adjust_absent t i _ new

    pub grown_at : {n : ℕ} {u : Table A} → Room n t i → u ≡ insert t i d → Grown n (put_back_in g h t (Some i) b u) u (Some i) (g (find u i))
    grown_at {n} {u} m e =
        let z : put_back_in g h t (Some i) b u ≡ t = ap (λ w. put_back_in g h t (Some i) b w) e ∙ still in
        let x : g (find u i) ≡ d = ap g (ap (λ w. find w i) e ∙ find_in_lem t i d new) ∙ h d in
        record { named = refl; room = rw z m; is = e ∙ ap (λ w. insert w i d) (sym z) ∙ ap (insert (put_back_in g h t (Some i) b u) i) (sym x) }

  module _ (g : Found A → A) (h : (r : A) → g (here r) ≡ r) (t : Table A) (a b : Named) where
    pub grown : {n : ℕ} {u : Table A} → Touched n t u a b → came g h t a b u ≡ true → Grown n (put_back_in g h t a b u) u a (g (find_by u a))
    grown {n} {u} (put p) c = never (sym c ∙ not_came g h t a b p)
    grown {n} {u} (let_in_lem i d s m e) c = rw s (grown_at g h t i b d m.new m e)
