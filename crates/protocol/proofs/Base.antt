-- The words of logic, lists and numbers that the proofs use, in one place.
pub use Prim.Native.Nat.{◌*◌, ◌+◌, ◌-◌, ◌<◌, ◌^◌, ◌≤◌, suc, zero, ℕ}
pub use Rattle.std.proofs.iter.runs.Lists.{folded_map, none-some, nth_drop, slice_get-map as nth_map, nth_seam, slice_get_within as nth_within, same_Some}
pub use Rattle.std.proofs.lemmas.List.FromFn.{get_or-range_with_len, length-range_with_len as length_counting, map-range_with_len_more as map_counting_more}
pub use Rattle.std.proofs.ByRecursion.{All-append, All-drop, All-get_or, All-push, All-take, All-weaker}
pub use Rattle.std.proofs.lemmas.List.{drop-drop, get_or-map, get_or_past, get_or-replicate, get_or-set_other, get_or-set_same, length-map, length_push, length-set, length-take-le, map-id, map_push, same_lists, take_at}
pub use Rattle.std.proofs.lemmas.Option.{gets, slice_get_cases, slice_get-get_or as nth_getD}
pub use Rattle.std.proofs.lemmas.Grind.{common_steps}
pub use Rattle.std.proofs.lemmas.Iterator.Adapters.{option_map_id as mapped_id}
pub use Rattle.std.proofs.lemmas.List.Folds.{sum_by-replicate}
pub use Rattle.std.proofs.lemmas.List.Sums.{get_or-le-sum_by, sum_by-append, sum_by-cons, sum_by_push, sum_by-set}
pub use Rattle.std.proofs.lemmas.Bool.{and_from, cases_Bool, cases_eq, cases_order, cond_both, cond-true, eq-eqb, eqb-true, false≢true, le-leb, leb-true, not-false, or_cases, or_parts}
pub use Rattle.std.proofs.lemmas.Bool.Decides.{nat_tests as tells}
pub use Rattle.std.specs.List.{range_with_len as counting, sum_by, AllByRecursion, slice_get as nth}
pub use Rattle.std.specs.Option.{is_some as option_is_some, option_map as mapped}
pub use Rattle.std.specs.declared.option.Option.{Option}
pub use Rattle.std.specs.declared.option.Option.TheVariants.{None, Some}
pub use Rattle.std.specs.declared.result.Result.{Result}
pub use Rattle.std.specs.declared.result.Result.TheVariants.{Err, Ok}
pub use lib.Dec.{eqb, leb, ltb}
pub use lib.IntN.{ℤ}
pub use lib.ListN.{drop, get_or, length, length-replicate, length-take, replicate, set, take, take-append-drop}
pub use lib.Seq.{drop-cons, take-suc, take_all}
pub use mathlib.Core.Bool.{Bool, ◌&&◌, ◌||◌, cond, false, not, true}
pub use mathlib.Core.List.{List, [], ◌++◌, ◌∷◌, append_assoc, append-nil, map}
pub use mathlib.Core.Logic.{◌⊎◌, inl, inr}
pub use mathlib.Core.Path.{◌∙◌, ◌≡◌, ap, refl, subst, subst₂, sym}
pub use native.Mathlib.Omega.{arith}
pub use Rattle.std.proofs.Common.{rules}
