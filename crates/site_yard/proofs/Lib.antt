mod CountingLemmas
mod KeptLemmas
mod PlaceLemmas
pub mod PlanLemmas
mod SuitsLemmas
mod FollowLemmas
mod HoldsLemmas
mod SourceLemmas
mod SweepLemmas
mod TraceLemmas
mod GoneLemmas
mod OthersLemmas
mod DeliveredLemmas
pub mod AgreesLemmas
mod DeliveryListLemmas
mod DeliveryRoomLemmas
mod EndingLemmas
mod FaultsLemmas
mod FailingLemmas
mod CompletingLemmas
mod LeavingLemmas
pub mod AimLemmas
mod RoomLemmas
mod LentLemmas
mod SizedLemmas
mod StandsLemmas
mod OpenLemmas
mod ReopenLemmas
mod ListLemmas
mod NextLemmas
mod LoanLemmas
mod StoredLemmas
mod LendLemmas
mod PartLemmas
mod SettleLemmas
mod PlacedLemmas
mod SettledLemmas
mod ReturnLemmas
pub mod YardLemmas
