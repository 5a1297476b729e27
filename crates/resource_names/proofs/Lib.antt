mod SizeLemmas
mod SegmentLemmas
mod Divisions
mod Digests
mod Names
mod ReadNames
mod WriteNames
