pub mod Areas
pub mod Gets
mod Compared
pub mod Contents
pub mod Early
mod Live
mod Numbers
mod Ordered
mod Pushed
mod Rules
mod Trees
mod Later
mod Pushing
mod PushedMore
mod Entering
mod Stands
mod Lent
pub mod Rooms
pub mod Shares
mod Sizes
mod Taken
mod Gathers
mod Gathered
mod Closes
mod Closing
mod GatherCall
mod Ends
mod Batches
mod Syncs
mod Over
mod Handed
mod IntoTree
pub mod Stays
