-- The numbers as they stand in the wording of refusals.
use Rattle.std.proofs.Common.{◌≡◌, [], ◌∷◌, decimal, refl}
use Rattle.std.specs.Fmt.{digits}

pub figure_1 : decimal 1 ≡ 49 ∷ []
unfolding digits
figure_1 = refl

pub figure_2 : decimal 2 ≡ 50 ∷ []
unfolding digits
figure_2 = refl

pub figure_3 : decimal 3 ≡ 51 ∷ []
unfolding digits
figure_3 = refl

pub figure_4 : decimal 4 ≡ 52 ∷ []
unfolding digits
figure_4 = refl

pub figure_5 : decimal 5 ≡ 53 ∷ []
unfolding digits
figure_5 = refl

pub figure_6 : decimal 6 ≡ 54 ∷ []
unfolding digits
figure_6 = refl

pub figure_7 : decimal 7 ≡ 55 ∷ []
unfolding digits
figure_7 = refl

pub figure_8 : decimal 8 ≡ 56 ∷ []
unfolding digits
figure_8 = refl

pub figure_9 : decimal 9 ≡ 57 ∷ []
unfolding digits
figure_9 = refl

pub figure_10 : decimal 10 ≡ 49 ∷ 48 ∷ []
unfolding digits
figure_10 = refl

pub figure_11 : decimal 11 ≡ 49 ∷ 49 ∷ []
unfolding digits
figure_11 = refl

pub figure_12 : decimal 12 ≡ 49 ∷ 50 ∷ []
unfolding digits
figure_12 = refl

pub figure_13 : decimal 13 ≡ 49 ∷ 51 ∷ []
unfolding digits
figure_13 = refl

pub figure_14 : decimal 14 ≡ 49 ∷ 52 ∷ []
unfolding digits
figure_14 = refl

pub figure_15 : decimal 15 ≡ 49 ∷ 53 ∷ []
unfolding digits
figure_15 = refl

pub figure_16 : decimal 16 ≡ 49 ∷ 54 ∷ []
unfolding digits
figure_16 = refl

pub figure_17 : decimal 17 ≡ 49 ∷ 55 ∷ []
unfolding digits
figure_17 = refl

pub figure_18 : decimal 18 ≡ 49 ∷ 56 ∷ []
unfolding digits
figure_18 = refl

pub ruleset figures = (figure_1, figure_2, figure_3, figure_4, figure_5, figure_6, figure_7, figure_8, figure_9, figure_10, figure_11, figure_12, figure_13, figure_14, figure_15, figure_16, figure_17, figure_18)
