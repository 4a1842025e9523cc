-- The definitions opened, so that they compute.
use Rattle.std.specs.Int.Count.{ones, ones_in}
use Rattle.model.specs.Lists.{all, any, all_tails, all_heads, find, those, count, part, without, splice, elem, same, rising, up_from, pad_to, insert}
use Rattle.model.specs.Bytes.{zero_bits, all_ff, words, ands, ors, minus, zeros_of}
use Rattle.model.specs.Page.{class_of, torn_by, spare_of, sealed, page_bytes, page_at, data_at, block_at, put_page, put_block, blank_at, whole_at, torn_at, used_from}
use Rattle.model.specs.Geometry.{geometry_ok, lengths_ok, same_geometry, map_pages, data_block, data_page, blank_map, entry_ok, map_ok}
use Rattle.model.specs.Zones.{checkpointed, zones_of, new_block, zone_lists_ok, zones_ok, used_in, is_full, clean_in, next_in, is_odd, plane_of, other_plane, taken_from, entry_of, entry_at, whole_from, scan_in, scan_of, torn_in, torn_of, on_pages, active, wanted, staying, leaving, holds_wanted, judged, free_index, past_block, take_one, refill, zones_taken, slide, format_zones, freed}
use Rattle.model.specs.Checkpoint.{map_bytes, map_page, zone_data, zone_page, same_spare, page_is, maps_at, number_at, complete_at, newer, newest_from, newest, load_map, zones_in, load_ok}
use Rattle.model.specs.Recovery.{mark_new, number_good, entry_good, pages_good, of_id, pages_of, committed, by_number, in_turn, txns_in, span, top, applied, enter, redone}
use Rattle.model.specs.World.{World, apply_op, due_bits, turned_bits, turn, cut_op, every_turned}
use Rattle.model.specs.Order.{first_number, leave_out}
use Rattle.model.specs.Frame.{bad_id, most_pages, place_ok, alone, places_ok, format_stride_ok, checkpoint_stride_ok, work_ok, lent_ok, frame_ok, gate, fresh_state}
use Rattle.model.specs.Transactions.{place_of, with_place, with_version, with_last, number_of, data_bytes, change_bytes, held_at, hold_with, begun, live_id, plan_begin, written, held_op, held_state, write_plan, plan_write, gone, plan_drop, lone_plan, plan_lone, entered, mark_plan, forget_plan, plan_commit, plan_abort, read_answer, read_part}
use Rattle.model.specs.Strides.{with_work, with_zones, with_number, map_stride, zone_stride, page_stride, other_stride, first_stride, checkpoint_stride, plan_checkpoint, mapped_in, fewer, pick_from, picked, lowest_from, copy_stride, free_stride, reclaim_stride, plan_reclaim, strides_done, format_work_ok, format_more, format_last, format_stride, plan_format}
use Rattle.model.specs.Recover.{recovered_map, recovered_state, recover_plan, plan_recover}
use Rattle.model.specs.Commands.{Call, Outcome, plan, carried, exec}
use Rattle.model.specs.Book.{Event, Book, enter_all, writes_of, add_to, close, entering, changing, tell}

-- what a call leads to
unfoldable pub go : Call → World → Outcome
unfolding ones ones_in all any all_tails all_heads find those count part without splice elem same rising up_from pad_to insert zero_bits all_ff words ands ors minus zeros_of class_of torn_by spare_of sealed page_bytes page_at data_at block_at put_page put_block blank_at whole_at torn_at used_from geometry_ok lengths_ok same_geometry map_pages data_block data_page blank_map entry_ok map_ok checkpointed zones_of new_block zone_lists_ok zones_ok used_in is_full clean_in next_in is_odd plane_of other_plane taken_from entry_of entry_at whole_from scan_in scan_of torn_in torn_of on_pages active wanted staying leaving holds_wanted judged free_index past_block take_one refill zones_taken slide format_zones freed map_bytes map_page zone_data zone_page same_spare page_is maps_at number_at complete_at newer newest_from newest load_map zones_in load_ok mark_new number_good entry_good pages_good of_id pages_of committed by_number in_turn txns_in span top applied enter redone apply_op due_bits turned_bits turn cut_op every_turned first_number leave_out bad_id most_pages place_ok alone places_ok format_stride_ok checkpoint_stride_ok work_ok lent_ok frame_ok gate fresh_state place_of with_place with_version with_last number_of data_bytes change_bytes held_at hold_with begun live_id plan_begin written held_op held_state write_plan plan_write gone plan_drop lone_plan plan_lone entered mark_plan forget_plan plan_commit plan_abort read_answer read_part with_work with_zones with_number map_stride zone_stride page_stride other_stride first_stride checkpoint_stride plan_checkpoint mapped_in fewer pick_from picked lowest_from copy_stride free_stride reclaim_stride plan_reclaim strides_done format_work_ok format_more format_last format_stride plan_format recovered_map recovered_state recover_plan plan_recover plan carried exec
go c w = exec c w

-- the book after an event
unfoldable pub told : Book → Event → Book
unfolding go tell entering changing enter_all writes_of add_to close
told b e = tell b e
