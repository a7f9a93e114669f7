pub mod Mapped
pub mod Lists
pub mod Cuts
pub mod PairsSeen
pub mod PairsLeft
pub mod MembersAlike
pub mod MembersSeen
pub mod MembersAfter
