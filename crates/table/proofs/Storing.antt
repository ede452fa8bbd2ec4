-- What a turn leaves of one table: the rows that it saw are put back, and one is let in where it came. Over any row type and any struct.
use Rattle.std.specs.Prelude.{ℕ, ◌≡◌, Bool, true, false, not, ◌&&◌}
use Rattle.std.proofs.Common.{sym, ap, ◌∙◌}
use Rattle.table.specs.Tables.{Found, here, Table, insert, has, Room}
use Rattle.table.specs.Keeping.{Fine}
use Rattle.table.proofs.Keeping.{Keeping}
use Rattle.table.specs.Named.{id_of, find_by, put_by}
use Rattle.table.proofs.NamedLaws.{fine_by, put_again}
use Rattle.table.specs.Touching.{Touched}
use Rattle.table.proofs.Touching.{put_back, grown}
use Rattle.table.specs.Named.{Named}
use Rattle.std.specs.Prelude.{Some}
use Rattle.table.specs.Storing.{Left}

module _ {A S : Type 0} {n : ℕ} {of : S → Table A} {stored : Table A → S} {Good : S → Type 0} (K : Keeping n of stored Good) (g : Found A → A) (h : (r : A) → g (here r) ≡ r)
    {t u : Table A} {a b : Named} {was is : Bool} {x y : A} (l : Left n g t u a b was is x y) {v : S} (e : v ≡ stored (put_by (put_by t b y) a x)) where
  abbrev mid : Table A
  mid = put_by (put_by t b y) a x

  abbrev seen : Table A
  seen = put_by (put_by t b (g (find_by u b))) a (g (find_by u a))

  fine_mid : Fine n mid
  fine_mid = fine_by (fine_by l.fine b y) a x

  as_seen : mid ≡ seen
  as_seen = ap (λ z. put_by (put_by t b z) a x) l.second ∙ ap (λ z. put_by (put_by t b (g (find_by u b))) a z) l.first

  came_is : {c : Bool} → not was && is ≡ c → not (has (find_by t a)) && has (find_by u a) ≡ c
  came_is q = ap (λ z. not z && has (find_by u a)) (sym l.before) ∙ ap (λ z. not was && z) (sym l.after) ∙ q

  of_mid : of v ≡ mid
  of_mid = ap of e ∙ K.back fine_mid

  pub good : Good v
  good = rw e (K.good fine_mid)

  pub stays : not was && is ≡ false → v ≡ stored u
  stays q = e ∙ ap stored (as_seen ∙ sym (put_back g h t a b l.fine.rises l.touched (came_is q)))

  pub named : not was && is ≡ true → a ≡ Some (id_of a)
  named q = (grown g h t a b l.touched (came_is q)).named

  pub room : not was && is ≡ true → Room n (of v) (id_of a)
  room q = rw (of_mid, as_seen) (grown g h t a b l.touched (came_is q)).room

  pub grows : {w : S} → not was && is ≡ true → w ≡ stored (insert (of v) (id_of a) x) → w ≡ stored u
  grows {w} q p =
      p ∙ ap (λ z. stored (insert z (id_of a) x)) (of_mid ∙ as_seen) ∙ ap (λ z. stored (insert seen (id_of a) z)) l.first ∙ ap stored (sym (grown g h t a b l.touched (came_is q)).is)

-- at one key
pub once : {A S : Type 0} (stored : Table A → S) (t : Table A) (a : Named) (x : A) {v : S} → v ≡ stored (put_by t a x) → v ≡ stored (put_by (put_by t a x) a x)
once stored t a x e = e ∙ ap stored (sym (put_again t a x x))
