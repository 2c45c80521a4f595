use Rattle.layout.proofs.Loads.{insert_law, remove_law, jump_law}
use Rattle.layout.proofs.Crowds.{crowding_law, insert_crowding_law}
use Rattle.layout.proofs.Ranks.{rank_law, select_law, block_law}
use Rattle.layout.proofs.Bridge.{layout_law, offset_law}
use Rattle.layout.proofs.Moves.{slots_law}
use Rattle.layout.proofs.Edits.{insert_slots_law, remove_slots_law, insert_offsets_law, remove_offsets_law, insert_occupied_law}
use Rattle.layout.proofs.Inserts.{order_law}
use Rattle.layout.proofs.Rooms.{room_law, room_load_law, insert_room_law, remove_room_law, any_order_law, bound_law, used_law, used_jump_law, rank_slots_law, select_slots_law, block_slots_law, select_one_law}
use Rattle.layout.proofs.ReadBack.{read_law}
use Rattle.layout.proofs.Stops.{balance_law, before_law, stop_law, block_stop_law}
use Rattle.layout.proofs.Bags.{place_law, count_law, find_law, free_law, remove_occupied_law}
use Rattle.layout.proofs.Instance.{example}
use Rattle.layout.proofs.Bounds.{start_law, within_law, empty_law, fit_law, bag_law, stop_slots_law, balance_slots_law, cells_law, idle_law}
use Rattle.layout.proofs.laws.Goals as goal

pub returns : goal.returns
returns c = record {
  insert = insert_law;
  remove = remove_law;
  jump = jump_law;
  crowding = crowding_law;
  insert_crowding = insert_crowding_law;
  rank = rank_law;
  select = select_law;
  block = block_law;
  layout = layout_law;
  offset = offset_law;
  slots = slots_law;
  insert_slots = insert_slots_law;
  remove_slots = remove_slots_law;
  insert_offsets = insert_offsets_law;
  remove_offsets = remove_offsets_law;
  insert_occupied = insert_occupied_law;
  order = order_law;
  room = room_law;
  room_load = room_load_law;
  insert_room = insert_room_law;
  remove_room = remove_room_law;
  any_order = any_order_law;
  bound = bound_law;
  used = used_law;
  used_jump = used_jump_law;
  rank_slots = rank_slots_law;
  select_slots = select_slots_law;
  block_slots = block_slots_law;
  select_one = select_one_law;
  read = read_law;
  balance = balance_law;
  before = before_law;
  stop = stop_law;
  block_stop = block_stop_law;
  place = place_law;
  count = count_law;
  find = find_law;
  free = free_law;
  remove_occupied = remove_occupied_law;
  example = example;
  start = start_law;
  within = within_law;
  empty = empty_law;
  fit = fit_law;
  bag = bag_law;
  stop_slots = stop_slots_law;
  balance_slots = balance_slots_law;
  cells = cells_law;
  idle = idle_law;
}
