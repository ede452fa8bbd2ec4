-- 1000 at 500 over 3: the installments of each kind, and what is due once all have elapsed, on both sides of each sum.
use Rattle.std.specs.Prelude.{◌≡◌, refl, [], ◌∷◌, map}
use Rattle.refusal.specs.Choice.{pick}
use Rattle.installments.specs.Sums.{sum_to, paid_of, number_due, owed_on, due_of}
use Rattle.installments.specs.Even.{even}
use Rattle.installments.specs.Flat.{total_of, part_of, flat}
use Rattle.installments.specs.Falling.{listed, outstanding, principal, interest, falling_member, falling}

pub flat_installments : flat 3 (part_of 1000 500 3) (total_of 1000 500) ≡ 349 ∷ 349 ∷ 352 ∷ []
unfolding flat part_of total_of
flat_installments = refl

pub falling_installments : falling 1000 500 3 ≡ 349 ∷ 344 ∷ 339 ∷ []
unfolding falling falling_member principal interest outstanding listed pick
falling_installments = refl

pub even_dues : map (due_of (even 3 349) 3) (348 ∷ 349 ∷ 697 ∷ 698 ∷ 1046 ∷ 1047 ∷ []) ≡ (1, 1) ∷ (2, 349) ∷ (2, 1) ∷ (3, 349) ∷ (3, 1) ∷ (0, 0) ∷ []
unfolding due_of owed_on number_due paid_of sum_to even pick
even_dues = refl

pub flat_dues : map (due_of (flat 3 349 1050) 3) (348 ∷ 349 ∷ 697 ∷ 698 ∷ 1049 ∷ 1050 ∷ []) ≡ (1, 1) ∷ (2, 349) ∷ (2, 1) ∷ (3, 352) ∷ (3, 1) ∷ (0, 0) ∷ []
unfolding due_of owed_on number_due paid_of sum_to flat pick
flat_dues = refl

pub falling_dues : map (due_of (falling 1000 500 3) 3) (348 ∷ 349 ∷ 692 ∷ 693 ∷ 1031 ∷ 1032 ∷ []) ≡ (1, 1) ∷ (2, 344) ∷ (2, 1) ∷ (3, 339) ∷ (3, 1) ∷ (0, 0) ∷ []
unfolding due_of owed_on number_due paid_of sum_to falling falling_member principal interest outstanding listed pick
falling_dues = refl
