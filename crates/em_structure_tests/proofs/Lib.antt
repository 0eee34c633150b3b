mod Kept
mod ListQueue
mod Frames
mod TreeKeeps
mod BatchKeeps
mod QueueKeeps
mod StabKeeps
mod SortKeeps
