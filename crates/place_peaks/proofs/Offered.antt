-- What proofs here and in `lease_book` take from the crates below beside their clauses.
pub use Rattle.group_index.proofs.IndexLemmas.{front_more as front_longer}
pub use Rattle.lease_rules.proofs.GoodsLemmas.{good_small, made_so_far, storage_laws}
pub use Rattle.lease_rules.proofs.ListLemmas.{absent_filter, all_have, both, by_bool, few_once, filter_without}
pub use Rattle.lease_rules.proofs.ListLemmas.{has_filter, has_head, has_take, has_without, have_all}
pub use Rattle.lease_rules.proofs.ListLemmas.{once_filter, once_more, once_parts, or_case, or_right, un_not}
pub use Rattle.lease_rules.proofs.ListLemmas.{without_absent, without_has, without_head}
pub use Rattle.lease_rules.proofs.NumbersLemmas.{count_tasks_in}
pub use Rattle.lease_rules.proofs.OneLemmas.{is_found, is_none, is_stopped, one_choice}
pub use Rattle.lease_rules.proofs.RoomLemmas.{consistent_more, room_falls}
pub use Rattle.lease_rules.proofs.SafeLemmas.{choice_exists, complete_of, maker_of, safe_state}
pub use Rattle.lease_rules.proofs.SizesRoomLemmas.{sizes_fall}
pub use Rattle.lease_rules.proofs.SoundLemmas.{choice_in, cleaned_held, declared_long, fresh_among, is_waiting}
pub use Rattle.lease_rules.proofs.SoundLemmas.{not_both, put_at, put_off, safe_grant, sound_more, sound_opened}
pub use Rattle.lease_rules.proofs.StartLemmas.{clean_can_start, first_is_choice, fit_of, follows_of}
pub use Rattle.lease_rules.proofs.StartLemmas.{follows_without}
pub use Rattle.lease_rules.proofs.TotalLemmas.{total_more}
pub use Rattle.peak_tree.proofs.NumbersLemmas.{greatest-append}
pub use Rattle.storage_simulation.proofs.ChangeLemmas.{Making, cleaning, making, other_part}
pub use Rattle.storage_simulation.proofs.FollowingLemmas.{at_place, false_of, front_more, is_itself, not_of}
pub use Rattle.storage_simulation.proofs.FollowingLemmas.{once_at, or_left, place_of}
pub use Rattle.storage_simulation.proofs.GoodsLemmas.{lies_below}
pub use Rattle.storage_simulation.proofs.LawLemmas.{below_rises, below_test, pair_place}
pub use Rattle.storage_simulation.proofs.OrderableLemmas.{orderable}
pub use Rattle.storage_simulation.proofs.RisingLemmas.{rises_once}
pub use Rattle.storage_simulation.proofs.SumsLemmas.{one_changed, sum_at_most, sum_same, total_bound}
pub use Rattle.storage_simulation.proofs.SumsLemmas.{total_same}
