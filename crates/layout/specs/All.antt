-- All laws of the layout in one.
use Rattle.layout.specs.Load.{InsertLaw, RemoveLaw, JumpLaw, CrowdingLaw, InsertCrowdingLaw, RankLaw, SelectLaw, BlockLaw, BalanceLaw, BeforeLaw, StopLaw, BlockStopLaw, StartLaw, CellsLaw}
use Rattle.layout.specs.Runs.{LayoutLaw, OffsetLaw, PlaceLaw}
use Rattle.layout.specs.Moves.{SlotsLaw, InsertSlotsLaw, RemoveSlotsLaw, InsertOffsetsLaw, RemoveOffsetsLaw, InsertOccupiedLaw, OrderLaw}
use Rattle.layout.specs.Laws.{RoomLaw, RoomLoadLaw, InsertRoomLaw, RemoveRoomLaw, AnyOrderLaw, BoundLaw, UsedLaw, UsedJumpLaw, RankSlotsLaw, SelectSlotsLaw, BlockSlotsLaw, SelectOneLaw, ReadLaw, CountLaw, FindLaw, FreeLaw, RemoveOccupiedLaw, WithinLaw, EmptyLaw, FitLaw, BagLaw, StopSlotsLaw, BalanceSlotsLaw, IdleLaw}
use Rattle.layout.specs.Examples.{Example}

pub record Laws : Type 0 where
  -- the queue
  pub insert : InsertLaw
  pub remove : RemoveLaw
  pub jump : JumpLaw
  pub crowding : CrowdingLaw
  pub insert_crowding : InsertCrowdingLaw
  pub rank : RankLaw
  pub select : SelectLaw
  pub block : BlockLaw
  pub balance : BalanceLaw
  pub before : BeforeLaw
  pub stop : StopLaw
  pub block_stop : BlockStopLaw
  pub start : StartLaw
  pub cells : CellsLaw
  -- the runs
  pub layout : LayoutLaw
  pub offset : OffsetLaw
  pub place : PlaceLaw
  -- room, rank and select, reading back
  pub room : RoomLaw
  pub room_load : RoomLoadLaw
  pub insert_room : InsertRoomLaw
  pub remove_room : RemoveRoomLaw
  pub any_order : AnyOrderLaw
  pub bound : BoundLaw
  pub used : UsedLaw
  pub used_jump : UsedJumpLaw
  pub rank_slots : RankSlotsLaw
  pub select_slots : SelectSlotsLaw
  pub block_slots : BlockSlotsLaw
  pub select_one : SelectOneLaw
  pub read : ReadLaw
  pub count : CountLaw
  pub find : FindLaw
  pub free : FreeLaw
  pub remove_occupied : RemoveOccupiedLaw
  pub within : WithinLaw
  pub empty : EmptyLaw
  pub fit : FitLaw
  pub bag : BagLaw
  pub stop_slots : StopSlotsLaw
  pub balance_slots : BalanceSlotsLaw
  pub idle : IdleLaw
  -- one entry more or less
  pub slots : SlotsLaw
  pub insert_slots : InsertSlotsLaw
  pub remove_slots : RemoveSlotsLaw
  pub insert_offsets : InsertOffsetsLaw
  pub remove_offsets : RemoveOffsetsLaw
  pub insert_occupied : InsertOccupiedLaw
  pub order : OrderLaw
  -- a worked layout
  pub example : Example
